-- `checks::is_ended` meets its contract, place by place.
-- Assumes nothing.
use Rattle.std.proofs.Common.{rules}
use Rattle.solver.specs.Refusals.{ended}
use Rattle.solver.proofs.checks.is_ended.Goals as goal

pub returns-in-Stopped : goal.returns-in-Stopped
unfolding ended
returns-in-Stopped c = search rules

pub returns-in_default : goal.returns-in_default
unfolding ended
returns-in_default c = search rules
