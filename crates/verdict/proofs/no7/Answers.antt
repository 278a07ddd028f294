-- `no7` meets its contract: the test decides as the definition does.
-- Assumes nothing.
use Rattle.verdict.specs.Refusals.{no7}
use Rattle.verdict.proofs.no7.Goals as goal

pub returns : goal.returns
unfolding no7
returns c = c.refuse_if.ensures
