-- `no21` meets its contract: the test decides as the definition does.
-- Assumes nothing.
use Rattle.verdict.specs.Refusals.{no21}
use Rattle.verdict.proofs.Verdicts.{tests}
use Rattle.verdict.proofs.no21.Goals as goal

pub returns : goal.returns
unfolding no21
returns c = tests _ c.refuse_if.ensures c.is_outside.ensures
