-- A walk over a list of steps: where a step leaves it, and walks of lists that are joined.
-- Assumes nothing.
use mathlib.Core.Bool.{Bool, true, false}
use mathlib.Core.List.{List, [], ◌∷◌, ◌++◌}
use mathlib.Core.Path.{◌≡◌, refl, sym}
use Prim.Native.Nat.{ℕ}
use lib.Dec.{eqb}
use Rattle.field.specs.Field.{pick}
use Rattle.course.specs.declared.Step.{Step}
use Rattle.course.specs.declared.Step.TheVariants.{Mix, Check, Scale, Clear, Open, Lift}
use Rattle.course.specs.declared.Place.{Place}
use Rattle.course.specs.declared.Place.TheVariants.{At, Stopped, Done}
use Rattle.course.specs.declared.Order.{Order}
use Rattle.course.specs.StepList.{Revealed, None, Flag, Pivot, Unknown, revealed_by}
use Rattle.course.specs.Next.{following}
use Rattle.course.proofs.Along.{Calm, after_calm}
use Rattle.walk.specs.Walk.{Tally, Course, running, stopped, course_of, opened_at, spent, then, walk}

pub calm_course : (p : Place) (t : Tally) → Calm p → running t ≡ course_of p t
calm_course (At s) t c = refl
calm_course (Stopped j) t c = absurd c
calm_course Done t c = refl

-- where a step leaves a walk, from what it opened: Check stops it where it opened 1
abbrev pub settle : Revealed → ℕ → Tally → Course
settle None x t = running t
settle (Flag j) x t = pick (eqb x 1) (stopped j t) (running t)
settle (Pivot j) x t = running t
settle (Unknown j) x t = running t

course-check : (b : Bool) (j : ℕ) (t : Tally) → pick b (stopped j t) (running t) ≡ course_of (pick b (Stopped j) (At (Scale j))) t
course-check true j t = refl
course-check false j t = refl

settle-after : (m : ℕ) (s : Step) (x : ℕ) (t : Tally) → settle (revealed_by s) x t ≡ course_of (following m s x) t
unfolding following revealed_by
settle-after m (Mix j k) x t = calm_course (following m (Mix j k) x) t (after_calm m (Mix j k))
settle-after m (Check j) x t = course-check (eqb x 1) j t
settle-after m (Scale j) x t = calm_course (following m (Scale j) x) t (after_calm m (Scale j))
settle-after m (Clear j k) x t = calm_course (following m (Clear j k) x) t (after_calm m (Clear j k))
settle-after m (Open j) x t = calm_course (following m (Open j) x) t (after_calm m (Open j))
settle-after m (Lift j) x t = refl

module _ (o : Order) (ms zs : List ℕ) where
  pub then_settled : (s : Step) (t : Tally) → then o ms zs s (running t) ≡ settle (revealed_by s) (opened_at o ms zs s t) (spent o ms zs s t)
  then_settled s t = sym (settle-after o.size s (opened_at o ms zs s t) (spent o ms zs s t))

  pub walk-append : (a b : List Step) (c : Course) → walk o ms zs (a ++ b) c ≡ walk o ms zs b (walk o ms zs a c)
  unfolding walk
  walk-append [] b c = refl
  walk-append (s ∷ a) b c = walk-append a b (then o ms zs s c)

  pub walk-stopped : (a : List Step) (j : ℕ) (t : Tally) → walk o ms zs a (stopped j t) ≡ stopped j t
  unfolding walk
  walk-stopped [] j t = refl
  walk-stopped (s ∷ a) j t = walk-stopped a j t
