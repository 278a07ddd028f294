-- What holds at every place of a solve: where it is on the list, and that the walk of the steps left, from what is held, comes to one end.
-- Assumes nothing.
use mathlib.Core.List.{List}
use mathlib.Core.Path.{◌≡◌, sym, ◌∙◌}
use Prim.Native.Nat.{ℕ, ◌+◌, ◌≤◌}
use lib.ListN.{drop}
use Rattle.course.specs.declared.Step.{Step}
use Rattle.course.specs.declared.Place.{Place}
use Rattle.course.specs.declared.Place.TheVariants.{At, Stopped, Done}
use Rattle.course.specs.declared.Order.{Order}
use Rattle.course.specs.declared.Draws.{Draws}
use Rattle.course.specs.StepList.{cost_of, step_list}
use Rattle.course.specs.Next.{first_of, following}
use Rattle.course.proofs.Along.{Along, first_calm, none, start_along, start_rest, turn_along, turn_rest}
use Rattle.walk.specs.Act.{Held, opened, acted}
use Rattle.walk.specs.Walk.{Tally, Course, running, stopped, course_of, opened_at, spent, walk, fresh}
use Rattle.walk.proofs.Walked.{calm_course, walk-stopped}

abbrev pub tally : Held → ℕ → ℕ → ℕ → Tally
tally h k a b = record { left = h; steps = k; mask = a; nonzero = b }

pub record Going (o : Order) (ms zs : List ℕ) (goal : Course) (p : Place) (t : Tally) : Type 0 where
  pub along : Along o p t.steps t.mask t.nonzero
  pub same : walk o ms zs along.rest (course_of p t) ≡ goal

module _ (o : Order) (ms zs : List ℕ) where
  -- a solve begins
  pub begin : (h : Held) → 1 ≤ o.size
      → Going o ms zs (walk o ms zs (step_list o.size) (running (fresh h))) (first_of o.size 1) (fresh h)
  begin h some = record {
    along = start_along o some;
    same = rw (start_rest o some, ← (calm_course (first_of o.size 1) (fresh h) (first_calm o.size 1)));
  }

  module _ {goal : Course} {t : Tally} where
    -- a step is taken
    pub turn : {s : Step} → Going o ms zs goal (At s) t → Going o ms zs goal (following o.size s (opened_at o ms zs s t)) (spent o ms zs s t)
    unfolding walk
    turn {s} g =
        let x = opened_at o ms zs s t in
        record {
          along = turn_along o g.along x;
          same = rw (turn_rest o g.along x) at g.same;
        }

    -- the ends
    pub ended : Going o ms zs goal Done t → running t ≡ goal
    unfolding walk
    ended g = rw (none o.size g.along.rest g.along.leads) at g.same

    pub halted : {j : ℕ} → Going o ms zs goal (Stopped j) t → stopped j t ≡ goal
    halted {j} g = sym (walk-stopped o ms zs g.along.rest j t) ∙ g.same

  -- a step is taken, each part of it by an equation
  pub moved : {goal : Course} {s : Step} {x k a b : ℕ} {r : Draws} {p q : Place} {h u : Held}
      → Going o ms zs goal p (tally h k a b) → p ≡ At s
      → x ≡ opened o s (drop a ms) h → q ≡ following o.size s x → u ≡ acted o s (drop a ms) (drop b zs) h
      → r ≡ cost_of o s → Going o ms zs goal q (tally u (k + 1) (a + r.mask) (b + r.nonzero))
  moved {s = s} g e x q u r = rw (r, u, q, x) (turn {s = s} (rw e at g))
