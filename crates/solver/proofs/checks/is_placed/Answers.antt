-- `checks::is_placed` meets its contract: each kind of place has the test that the definition names.
-- Assumes nothing.
use Rattle.solver.specs.Refusals.{placed}
use Rattle.solver.proofs.checks.is_placed.Goals as goal

pub returns-in-At : goal.returns-in-At
unfolding placed
returns-in-At c = simp (c.in-At.is, c.in_list.ensures)

pub returns-in-Stopped : goal.returns-in-Stopped
unfolding placed
returns-in-Stopped c = simp (c.in-Stopped.is, c.is_outside.ensures)

pub returns-in-Done : goal.returns-in-Done
unfolding placed
returns-in-Done c = simp c.in-Done.is
