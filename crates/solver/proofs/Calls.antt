-- The work of Step, in the words of its call.
-- Assumes nothing.
use mathlib.Core.Path.{◌≡◌, refl}
use mathlib.Core.List.{List}
use Prim.Native.Nat.{ℕ}
use Rattle.course.specs.declared.Step.{Step}
use Rattle.course.specs.declared.Place.{Place}
use Rattle.course.specs.declared.Place.TheVariants.{At, Stopped, Done}
use Rattle.course.specs.declared.Progress.{Progress}
use Rattle.course.specs.StepList.{revealed_by}
use Rattle.course.specs.Next.{order_of, moved_on}
use Rattle.walk.specs.Act.{Held, opened, acted}
use Rattle.walk.specs.Walk.{leaves}
use Rattle.verdict.specs.Calls.{Says, gives, after}
use Rattle.solver.specs.declared.Stride.{Stride}
use Rattle.solver.specs.declared.Stride.TheVariants.{Moved}
use Rattle.solver.specs.Calls.{tells, lent, step_does}

-- the step of a place: what it opens, leaves and tells, and the next place
module _ (p : Progress) (place : Place) (h : Held) (mask nonzero : List ℕ) where
  pub step_done_lem : (s : Step) (k : Held) (x : ℕ) (a : Says Stride) (n : Progress) → place ≡ At s → x ≡ opened (order_of p) s mask h
      → k ≡ acted (order_of p) s mask nonzero h → a ≡ gives (tells (revealed_by s) x) → n ≡ moved_on p s x → after a (lent n k) ≡ step_does p place h mask nonzero
  unfolding step_does
  step_done_lem s k x a n e opens leaves tells-so moves = rw (e, tells-so, moves, leaves, opens)

-- a place that is no step changes nothing
pub step_stays : (p : Progress) (place : Place) (h : Held) (mask nonzero : List ℕ) → ((s : Step) → place ≡ At s → ⊥)
    → after (gives Moved) (lent p h) ≡ step_does p place h mask nonzero
unfolding step_does
step_stays p (At s) h mask nonzero ended = absurd (ended s refl)
step_stays p (Stopped j) h mask nonzero ended = refl
step_stays p Done h mask nonzero ended = refl
