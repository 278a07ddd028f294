-- `no3` meets its contract: the test decides as the definition does.
-- Assumes nothing.
use Rattle.verdict.specs.Refusals.{no3}
use Rattle.verdict.proofs.Verdicts.{tests}
use Rattle.verdict.proofs.no3.Goals as goal

pub returns : goal.returns
unfolding no3
returns c = tests _ c.refuse_if.ensures c.is_outside.ensures
