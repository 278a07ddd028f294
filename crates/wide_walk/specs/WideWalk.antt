-- 02, R-8: the whole solve of a wide system, after its checks. It takes the steps from a fresh record on, each on the row that its pivots give and
-- on the tapes from its own first draw on; the record's counters are the places of these draws. "On short the whole solve writes zeros";
-- otherwise the unknowns of columns that are passed over are 0.
-- Assumes nothing.
use Rattle.std.specs.Prelude.{List, ◌≡◌, ℕ, zero, suc, ◌+◌, ◌*◌, length, drop, replicate}
use Rattle.course.specs.declared.Step.{Step}
use Rattle.course.specs.declared.Counts.{Counts}
use Rattle.course.specs.StepList.{column_of}
use Rattle.walk.specs.Act.{Held, held, step_opens, step_leaves}
use Rattle.pattern.specs.declared.WideOrder.{WideOrder}
use Rattle.pattern.specs.declared.WidePlace.{WidePlace}
use Rattle.pattern.specs.declared.WidePlace.TheVariants as P
use Rattle.pattern.specs.declared.WideProgress.{WideProgress}
use Rattle.pattern.specs.Pivots.{row_of, listed}
use Rattle.pattern.specs.PatternList.{pattern_list, sums}
use Rattle.pattern.specs.Next.{start_of, moved_on}
use Rattle.wide_walk.specs.declared.WideEnding.{WideEnding}
use Rattle.wide_walk.specs.declared.WideEnding.TheVariants.{Solved, Short}

-- what a step opens and leaves where the pivots found are ps: "j is the column, its row stands for row j"
unfoldable pub opened : WideOrder → List ℕ → Step → List ℕ → Held → ℕ
opened o ps s ds h = step_opens o.field o.shares (o.columns + 1) (row_of ps (column_of s)) s ds h

unfoldable pub acted : WideOrder → List ℕ → Step → List ℕ → List ℕ → Held → Held
acted o ps s ds nz h = step_leaves o.field o.shares (o.columns + 1) (row_of ps (column_of s)) s ds nz h

-- a place at which a run has ended
abbrev pub Ended : WidePlace → Type 0
Ended (P.At s) = ⊥
Ended P.Short = Unit
Ended P.Done = Unit

-- a solve under way: its record, what was lent, and the steps taken
pub record Tally : Type 0 where
  pub progress : WideProgress
  pub left : Held
  pub steps : ℕ

module _ (ms zs : List ℕ) where
  abbrev pub opened_at : Step → Tally → ℕ
  opened_at s t = opened t.progress.order (listed t.progress.pivots) s (drop t.progress.mask ms) t.left

  -- the step of a place; an ended solve stays
  abbrev pub spent : WidePlace → Tally → Tally
  spent (P.At s) t =
      record {
        progress = moved_on t.progress s (opened_at s t);
        left =
            acted t.progress.order (listed t.progress.pivots) s (drop t.progress.mask ms) (drop t.progress.nonzero zs) t.left;
        steps = t.steps + 1;
      }
  spent P.Short t = t
  spent P.Done t = t

  -- so many steps, or fewer where it ends before
  unfoldable pub walk : ℕ → Tally → Tally
  walk zero t = t
  walk (suc n) t = walk n (spent t.progress.place t)

-- there are no more: in a column at most rows-1 Mixes, a Check, a Scale and rows-1 Clears, and for each row at most an Open and a Lift
unfoldable pub most_steps : WideOrder → ℕ
most_steps o = (o.columns + 1) * (2 * o.rows)

abbrev pub counts_of : Tally → Counts
counts_of t = record { steps = t.steps; mask = t.progress.mask; nonzero = t.progress.nonzero }

-- done is solved; a solve that is not done is short
abbrev pub ending_at : WidePlace → Counts → WideEnding
ending_at (P.At s) c = Short c
ending_at P.Short c = Short c
ending_at P.Done c = Solved c

pub record Solution : Type 0 where
  pub answer : WideEnding
  pub left : Held

abbrev pub leaves : WideEnding → List ℕ → List ℕ → Solution
leaves a t x = record { answer = a; left = held t x }

unfoldable pub conclude : Tally → Solution
conclude t = record { answer = ending_at t.progress.place (counts_of t); left = t.left }

-- a fresh record, and a solution of zeros
abbrev pub begun : WideOrder → Held → Tally
begun o h =
    record { progress = start_of o; left = held h.table (replicate (length h.solution) 0); steps = 0 }

abbrev pub ended : WideOrder → List ℕ → List ℕ → Held → Tally
ended o ms zs h = walk ms zs (most_steps o) (begun o h)

unfoldable pub solved : WideOrder → List ℕ → List ℕ → Held → Solution
solved o ms zs h = conclude (ended o ms zs h)

-- the pivots that it found
unfoldable pub pattern_of : WideOrder → List ℕ → List ℕ → Held → List ℕ
pattern_of o ms zs h = listed (ended o ms zs h).progress.pivots

-- "Mask draws follow a sum over the public pivot pattern": the counters of an ending are those of a pattern's list
abbrev pub Counters : WideOrder → List ℕ → WideEnding → Type 0
Counters o ps (Solved c) = (length ps ≡ o.rows) × (c ≡ sums o (pattern_list o.rows o.columns ps))
Counters o ps (Short c) = c ≡ sums o (pattern_list o.rows o.columns ps)
