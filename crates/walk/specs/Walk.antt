-- The whole solve, after its checks: a walk over the step list. Each step works on the tapes from its own first draw on, and the counters are
-- the places of these draws.
-- Assumes nothing.
use Rattle.std.specs.Prelude.{List, [], ◌∷◌, ◌≡◌, ℕ, ◌+◌, length, drop, replicate}
use Rattle.course.specs.declared.Step.{Step}
use Rattle.course.specs.declared.Place.{Place}
use Rattle.course.specs.declared.Place.TheVariants as P
use Rattle.course.specs.declared.Order.{Order}
use Rattle.course.specs.declared.Counts.{Counts}
use Rattle.course.specs.StepList.{mask_cost, nonzero_cost, step_list, up_to, sums}
use Rattle.course.specs.Next.{following}
use Rattle.walk.specs.declared.Ending.{Ending}
use Rattle.walk.specs.declared.Ending.TheVariants.{Solved, Stopped}
use Rattle.walk.specs.Act.{Held, held, opened, acted}

-- what was lent, and what was taken so far
pub record Tally : Type 0 where
  pub left : Held
  pub steps : ℕ
  pub mask : ℕ
  pub nonzero : ℕ

pub data Course : Type 0 where
  running : Tally → Course
  stopped : ℕ → Tally → Course

-- a walk has stopped where the next place has
abbrev pub course_of : Place → Tally → Course
course_of (P.At s) t = running t
course_of (P.Stopped j) t = stopped j t
course_of P.Done t = running t

module _ (o : Order) (ms zs : List ℕ) where
  abbrev pub opened_at : Step → Tally → ℕ
  opened_at s t = opened o s (drop t.mask ms) t.left

  abbrev pub spent : Step → Tally → Tally
  spent s t =
      record {
        left = acted o s (drop t.mask ms) (drop t.nonzero zs) t.left;
        steps = t.steps + 1;
        mask = t.mask + mask_cost o s;
        nonzero = t.nonzero + nonzero_cost o s;
      }

  -- the walk goes on from the place after the step
  abbrev pub then : Step → Course → Course
  then s (running t) = course_of (following o.size s (opened_at s t)) (spent s t)
  then s (stopped j t) = stopped j t

  unfoldable pub walk : List Step → Course → Course
  walk [] c = c
  walk (s ∷ ss) c = walk ss (then s c)

abbrev pub counts_of : Tally → Counts
counts_of t = record { steps = t.steps; mask = t.mask; nonzero = t.nonzero }

-- what a solve answers and leaves
pub record Solution : Type 0 where
  pub answer : Ending
  pub left : Held

abbrev pub leaves : Ending → List ℕ → List ℕ → Solution
leaves a t x = record { answer = a; left = held t x }

-- on stopped, all m solution bytes become 0
unfoldable pub conclude : Course → Solution
conclude (running t) = leaves (Solved (counts_of t)) t.left.table t.left.solution
conclude (stopped j t) =
    leaves (Stopped j (counts_of t)) t.left.table (replicate (length t.left.solution) 0)

abbrev pub fresh : Held → Tally
fresh h = record { left = h; steps = 0; mask = 0; nonzero = 0 }

unfoldable pub solved : Order → List ℕ → List ℕ → Held → Solution
solved o ms zs h = conclude (walk o ms zs (step_list o.size) (running (fresh h)))

-- 01: "three counters in the solve's result, proved equal to sums over the definition's step list": over the whole list where it is solved, and
-- over every step up to and including Check(j) where it is stopped at j
abbrev pub Counters : Order → Ending → Type 0
Counters o (Solved c) = c ≡ sums o (step_list o.size)
Counters o (Stopped j c) = c ≡ sums o (up_to o.size j)
