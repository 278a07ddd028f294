-- `checks::standing` meets its contract: a refusal stands where those before it passed.
-- Assumes nothing.
use Rattle.std.proofs.Common.{rules}
use Rattle.verdict.specs.Told.{◌or◌}
use Rattle.wide.specs.WideRefusals.{standing, no10, no19, no11, ended}
use Rattle.wide.proofs.checks.standing.Goals as goal

pub returns-then-not-is_placed : goal.returns-then-not-is_placed
unfolding standing no10 no19 no11 ◌or◌
returns-then-not-is_placed c = search rules

pub returns-then-not-is_counted : goal.returns-then-not-is_counted
unfolding standing no10 no19 no11 ◌or◌
returns-then-not-is_counted c = search rules

pub returns-in-At : goal.returns-in-At
unfolding standing no10 no19 no11 ended ◌or◌
returns-in-At c = search rules

pub returns-in-Short : goal.returns-in-Short
unfolding standing no10 no19 no11 ended ◌or◌
returns-in-Short c = search rules
