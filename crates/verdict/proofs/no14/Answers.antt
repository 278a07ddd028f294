-- `no14` meets its contract: the test decides as the definition does.
-- Assumes nothing.
use Rattle.verdict.specs.Refusals.{no14}
use Rattle.verdict.proofs.no14.Goals as goal

pub returns : goal.returns
unfolding no14
returns c = c.refuse_if.ensures
