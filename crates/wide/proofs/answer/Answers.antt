-- `wide::answer` meets its contract: an Open tells what it opened, and every other step that it moved, or is short.
-- Assumes nothing.
use Rattle.std.proofs.Common.{rules}
use Rattle.course.specs.StepList.{revealed_by}
use Rattle.wide.specs.WideCalls.{tells}
use Rattle.wide.proofs.answer.Goals as goal

pub returns-in-Open-Done : goal.returns-in-Open-Done
unfolding tells revealed_by
returns-in-Open-Done c = search rules

pub returns-in-Open-default : goal.returns-in-Open-default
unfolding tells revealed_by
returns-in-Open-default c = search rules

pub returns-in_default-Short : goal.returns-in_default-Short
unfolding tells revealed_by
returns-in_default-Short c = search rules

pub returns-in_default : goal.returns-in_default
unfolding tells revealed_by
returns-in_default c = search rules
