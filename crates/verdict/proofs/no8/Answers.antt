-- `no8` meets its contract: the test decides as the definition does.
-- Assumes nothing.
use Rattle.verdict.specs.Refusals.{no8}
use Rattle.verdict.proofs.no8.Goals as goal

pub returns : goal.returns
unfolding no8
returns c = c.refuse_if.ensures
