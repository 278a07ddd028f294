-- `no4` meets its contract: the test decides as the definition does.
-- Assumes nothing.
use Rattle.verdict.specs.Refusals.{no4}
use Rattle.verdict.proofs.no4.Goals as goal

pub returns : goal.returns
unfolding no4
returns c = c.refuse_if.ensures
