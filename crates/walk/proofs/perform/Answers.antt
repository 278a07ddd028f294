-- `walk::perform` meets its contract: each arm is the step's line of the definition, and what the work asks follows from the step's places.
-- Assumes nothing.
use Rattle.course.specs.StepList.{cost_in, revealed_by}
use Rattle.walk.specs.Act.{step_opens, step_leaves}
use Rattle.walk.proofs.perform.Goals as goal

pub mix-requires-clause-draws : goal.mix-requires-clause-draws
unfolding cost_in
mix-requires-clause-draws c = let draws = rw c.in-Mix.is at c.requires.s_in_bounds in draws.0

pub check-requires-clause-draws : goal.check-requires-clause-draws
unfolding cost_in
check-requires-clause-draws c = let draws = rw c.in-Check.is at c.requires.s_in_bounds in draws.0

pub scale-requires-clause-draws : goal.scale-requires-clause-draws
unfolding cost_in
scale-requires-clause-draws c = let draws = rw c.in-Scale.is at c.requires.s_in_bounds in draws

pub clear-requires-clause-draws : goal.clear-requires-clause-draws
unfolding cost_in
clear-requires-clause-draws c = let draws = rw c.in-Clear.is at c.requires.s_in_bounds in draws.0

pub open-x-requires-clause-draws : goal.open-x-requires-clause-draws
unfolding cost_in
open-x-requires-clause-draws c = let draws = rw c.in-Open.is at c.requires.s_in_bounds in draws.0

pub returns-in-Mix : goal.returns-in-Mix
unfolding step_opens step_leaves revealed_by
returns-in-Mix c =
    let e = c.in-Mix.is in
    record { value = rw e; solution_after = rw (e, c.mix.ensures) }

pub returns-in-Check : goal.returns-in-Check
unfolding step_opens step_leaves revealed_by
returns-in-Check c =
    let e = c.in-Check.is in
    record { value = rw (e, c.check.ensures); solution_after = rw e }

pub returns-in-Scale : goal.returns-in-Scale
unfolding step_opens step_leaves revealed_by
returns-in-Scale c =
    let e = c.in-Scale.is in
    record { value = rw e; solution_after = rw (e, c.scale.ensures) }

pub returns-in-Clear : goal.returns-in-Clear
unfolding step_opens step_leaves revealed_by
returns-in-Clear c =
    let e = c.in-Clear.is in
    record { value = rw e; solution_after = rw (e, c.clear.ensures) }

pub returns-in-Open : goal.returns-in-Open
unfolding step_opens step_leaves revealed_by
returns-in-Open c =
    let e = c.in-Open.is in
    record { value = rw (e, c.open-x.ensures); solution_after = rw (e, c.open-x.ensures) }

pub returns-in-Lift : goal.returns-in-Lift
unfolding step_opens step_leaves revealed_by
returns-in-Lift c =
    let e = c.in-Lift.is in
    record { value = rw e; solution_after = rw (e, c.lift.ensures) }
