-- `no5` meets its contract: the test decides as the definition does.
-- Assumes nothing.
use Rattle.verdict.specs.Refusals.{no5}
use Rattle.verdict.proofs.no5.Goals as goal

pub returns : goal.returns
unfolding no5
returns c = c.refuse_if.ensures
