-- `solver::answer` meets its contract: Check and Open tell what they opened, and every other step that it moved.
-- Assumes nothing.
use Rattle.std.proofs.Common.{rules}
use Rattle.course.specs.StepList.{revealed_by}
use Rattle.solver.specs.Calls.{tells}
use Rattle.solver.proofs.answer.Goals as goal

pub returns-in-Check : goal.returns-in-Check
unfolding revealed_by tells
returns-in-Check c = search rules

pub returns-in-Open-eq1 : goal.returns-in-Open-eq1
unfolding revealed_by tells
returns-in-Open-eq1 c = search rules

pub returns-in-Open : goal.returns-in-Open
unfolding revealed_by tells
returns-in-Open c = search rules

pub returns-in_default : goal.returns-in_default
unfolding revealed_by tells
returns-in_default c = search rules

pub returns-in_default-2 : goal.returns-in_default-2
unfolding revealed_by tells
returns-in_default-2 c = search rules
