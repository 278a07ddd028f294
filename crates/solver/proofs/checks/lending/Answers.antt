-- `checks::lending` meets its contract: what is wanted is the draws of the place.
-- Assumes nothing.
use mathlib.Core.Path.{ap}
use Rattle.course.specs.declared.Draws.{Draws}
use Rattle.solver.specs.Refusals.{lending}
use Rattle.solver.proofs.checks.lending.Goals as goal

pub returns : goal.returns
unfolding lending
returns c =
    let e = c.cost_at-cost.ensures in
    rw (← (ap (λ (d : Draws). d.mask) e), ← (ap (λ (d : Draws). d.nonzero) e)) c.exactly.ensures
