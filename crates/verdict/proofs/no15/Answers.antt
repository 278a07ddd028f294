-- `no15` meets its contract: the test decides as the definition does.
-- Assumes nothing.
use Rattle.verdict.specs.Refusals.{no15}
use Rattle.verdict.proofs.no15.Goals as goal

pub returns : goal.returns
unfolding no15
returns c = c.refuse_if.ensures
