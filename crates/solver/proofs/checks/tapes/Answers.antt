-- `checks::tapes` meets its contract: what is wanted is the draws of a full solve.
-- Assumes nothing.
use mathlib.Core.Path.{ap}
use Rattle.course.specs.StepList.{sums}
use Rattle.course.specs.declared.Counts.{Counts}
use Rattle.solver.specs.Refusals.{tapes}
use Rattle.solver.proofs.checks.tapes.Goals as goal

pub returns : goal.returns
unfolding tapes sums
returns c =
    let e = c.full_counts-full.ensures in
    rw (← (ap (λ (k : Counts). k.mask) e), ← (ap (λ (k : Counts). k.nonzero) e)) c.at_least.ensures
