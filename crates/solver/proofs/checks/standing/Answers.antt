-- `checks::standing` meets its contract: the first of the three that applies is told.
-- Assumes nothing.
use Rattle.std.proofs.Common.{rules}
use Rattle.verdict.specs.Told.{◌or◌}
use Rattle.solver.specs.Refusals.{standing, no10, no11, no19}
use Rattle.solver.proofs.checks.standing.Goals as goal

pub returns-then-not-listed : goal.returns-then-not-listed
unfolding standing no10 no11 no19 ◌or◌
returns-then-not-listed c = search rules

pub returns-then-not-matched : goal.returns-then-not-matched
unfolding standing no10 no11 no19 ◌or◌
returns-then-not-matched c = search rules

pub returns : goal.returns
unfolding standing no10 no11 no19 ◌or◌
returns c = search rules
