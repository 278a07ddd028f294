-- The counters of a solve are 01's sums, whatever the tapes, the shares and the values are.
-- Assumes nothing.
use mathlib.Core.List.{List, [], ◌∷◌}
use mathlib.Core.Path.{◌≡◌}
use Prim.Native.Nat.{ℕ, ◌≤◌}
use native.Mathlib.Omega.{arith}
use Rattle.course.specs.declared.Step.{Step}
use Rattle.course.specs.declared.Place.{Place}
use Rattle.course.specs.declared.Place.TheVariants.{At, Stopped, Done}
use Rattle.course.specs.declared.Order.{Order}
use Rattle.course.specs.StepList.{step_list}
use Rattle.course.specs.Next.{first_of, following}
use Rattle.course.proofs.Along.{Along, first_calm, first, none, start_along, start_rest, turn_along, turn_rest, counted_done, counted_stop}
use Rattle.walk.specs.Act.{Held}
use Rattle.walk.specs.Walk.{Tally, course_of, opened_at, spent, walk, conclude, fresh, solved, Counters}
use Rattle.walk.proofs.Walked.{calm_course, walk-stopped}

module _ (o : Order) (ms zs : List ℕ) where
  -- the steps left at a place are l, and the walk goes over them
  goes : (l : List Step) (p : Place) (t : Tally) (g : Along o p t.steps t.mask t.nonzero) → g.rest ≡ l
      → Counters o (conclude (walk o ms zs l (course_of p t))).answer
  unfolding walk conclude
  goes [] (At s) t g e =
      let f = (first o.size s g.rest g.leads).1 in
      let z : ◌≡◌ {A = ℕ} 0 1 = cc in
      absurd (let n : ⊥ = omega arith in n)
  goes [] (Stopped j) t g e = counted_stop o g
  goes [] Done t g e = counted_done o g
  goes (s ∷ l) (At r) t g e =
      let f = (first o.size r g.rest g.leads).1 in
      let same : r ≡ s = cc in
      let x : ℕ = opened_at o ms zs r t in
      let left = turn_rest o g x in
      rw (← same)
      (goes l (following o.size r x) (spent o ms zs r t) (turn_along o g x) (cc))
  goes (s ∷ l) (Stopped j) t g e = rw (walk-stopped o ms zs l j t) (counted_stop o g)
  goes (s ∷ l) Done t g e =
      let f = none o.size g.rest g.leads in
      let z : ◌≡◌ {A = ℕ} 0 1 = cc in
      absurd (let n : ⊥ = omega arith in n)

  pub solved_counters : 1 ≤ o.size → (h : Held) → Counters o (solved o ms zs h).answer
  unfolding solved
  solved_counters some h =
      rw (calm_course (first_of o.size 1) (fresh h) (first_calm o.size 1))
      (goes (step_list o.size) (first_of o.size 1) (fresh h) (start_along o some) (start_rest o some))
