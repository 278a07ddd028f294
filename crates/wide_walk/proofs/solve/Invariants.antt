-- `wide_walk::solve` meets its contract. The loop's invariant: the solve is sound, and comes to the end of the whole solve. The measure is how many steps
-- are left of the most that there can be.
-- Assumes nothing.
use Prim.Native.Nat.{◌-◌}
use Rattle.walk.specs.Act.{held}
use Rattle.wide_walk.specs.WideWalk.{most_steps, ended}
use Rattle.wide_walk.proofs.Going.{Going, tally}
use Rattle.wide_walk.proofs.solve.Given as goal

abbrev pub invariant-loop-p : goal.invariant-loop-p
invariant-loop-p l =
    Going l.o l.mask l.nonzero (ended l.o l.mask l.nonzero (held l.initial.table l.initial.solution)) (tally l.p (held l.table l.solution) l.steps)

abbrev pub decreases-loop-p : goal.decreases-loop-p
decreases-loop-p l = most_steps l.o - l.steps
