-- Demand 2: the answer of the whole solve is the one solution of the equations that the shares add up to, or the number of the first column
-- that the columns before it combine to, whatever the shares and the tapes are.
-- Assumes nothing.
use mathlib.Core.Path.{ap}
use Prim.Native.Nat.{ℕ, ◌-◌, ◌<◌}
use mathlib.Core.List.{List, []}
use native.Mathlib.Omega.{arith}
use lib.ListN.{get_or, replicate}
use Rattle.field.specs.Field.{field_of}
use Rattle.field.proofs.Fields.{field_of_lem}
use Rattle.algebra.specs.Linear as L
use Rattle.course.specs.declared.Order.{Order}
use Rattle.course.specs.StepList.{step_list}
use Rattle.walk.specs.Act.{held}
use Rattle.walk.specs.Walk.{Course, running, stopped, walk, fresh, conclude, solved}
use Rattle.meaning.specs.Meaning.{value_of, answer_of, Means}
use Rattle.meaning.specs.Claims.{Given}
use Rattle.meaning.proofs.Link.{value-lt}
use Rattle.meaning.proofs.Listed.{Stands, listed}
use Rattle.meaning.proofs.Walked.{SoundIn, values_of, walked, walked_sound}

-- from the values at the end of the walk to the answer
concluded : (o : Order) (t : List ℕ) (c : Course)
    → Stands (field_of o.field) o.size (field_of_lem o.field) (value_of o t) (value-lt o t)
    (λ U y. L.IsSolved (field_of o.field) o.size (value_of o t) y) (values_of o c)
    → Means o t (conclude c).answer (conclude c).left.solution
unfolding conclude
concluded o t (running u) h = h
concluded o t (stopped j u) h = h

left_by_lem : (o : Order) (c : Course) → SoundIn o [] c → L.Left o.size (answer_of (conclude c).answer) (conclude c).left.solution
unfolding conclude
left_by_lem o (running u) s = s.places
left_by_lem o (stopped j u) s = ap (λ (k : ℕ). replicate k 0) s

module _ (o : Order) (ms zs t x : List ℕ) (l : Given o zs t x) where
  some : 0 < o.shares
  some = omega (arith, l.sizes.two)

  -- the answer is true of the table that the call was given
  pub meant : Means o t (solved o ms zs (held t x)).answer (solved o ms zs (held t x)).left.solution
  unfolding solved
  meant =
      concluded o t (walk o ms zs (step_list o.size) (running (fresh (held t x))))
      (listed (field_of o.field) o.size (field_of_lem o.field) (value_of o t) (value-lt o t) (λ c. get_or x (c - 1) 0)
      (walked o some ms zs l.nonzero t x l.table l.solution))

  pub left : L.Left o.size (answer_of (solved o ms zs (held t x)).answer) (solved o ms zs (held t x)).left.solution
  unfolding solved
  left =
      left_by_lem o (walk o ms zs (step_list o.size) (running (fresh (held t x))))
      (walked_sound o some ms zs l.nonzero t x l.table l.solution)
