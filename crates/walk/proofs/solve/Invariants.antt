-- `walk::solve` meets its contract. The loop's invariant: what was counted and the steps left make up the list, and the walk of the steps left comes to the
-- end of the whole walk. The measure is how many steps are left.
-- Assumes nothing.
use mathlib.Core.List.{List}
use mathlib.Core.Path.{◌≡◌}
use Prim.Native.Nat.{ℕ, ◌-◌}
use lib.ListN.{length}
use Rattle.course.specs.declared.Order.{Order}
use Rattle.course.specs.declared.Progress.{Progress}
use Rattle.course.specs.StepList.{step_list}
use Rattle.course.specs.Next.{order_of}
use Rattle.walk.specs.Act.{Held, held}
use Rattle.walk.specs.Walk.{Tally, Course, running, walk, fresh}
use Rattle.walk.proofs.Acted.{Lengths}
use Rattle.walk.proofs.Going.{Going, tally}
use Rattle.walk.proofs.solve.Given as goal

-- what the solve comes to
abbrev pub end : Order → List ℕ → List ℕ → Held → Course
end o ms zs h = walk o ms zs (step_list o.size) (running (fresh h))

pub record Turning (o : Order) (ms zs : List ℕ) (h : Held) (p : Progress) (t : Tally) : Type 0 where
  pub order : order_of p ≡ o
  pub lengths : Lengths o t.left
  pub going : Going o ms zs (end o ms zs h) p.place t

abbrev pub invariant-loop-p : goal.invariant-loop-p
invariant-loop-p l = Turning l.o l.mask l.nonzero (held l.initial.table l.initial.solution) l.p (tally (held l.table l.solution) l.steps l.p.mask l.p.nonzero)

abbrev pub decreases-loop-p : goal.decreases-loop-p
decreases-loop-p l = length (step_list l.o.size) - l.steps
