-- 02, R-8: "On a square system it is short exactly where the base stops, and solves to the same x." Here the two hosts of such a system, side by
-- side: what the wide one has where the square one has come to some place. proofs/Square.antt proves it for every run up to the square's stop.
-- Assumes nothing.
use Rattle.std.specs.Prelude.{List, [], ◌∷◌, ◌++◌, ◌≡◌, ℕ, zero, suc, ◌+◌, ◌-◌}
use Rattle.course.specs.declared.Step.{Step}
use Rattle.course.specs.declared.Step.TheVariants.{Mix, Check, Scale, Clear, Open, Lift}
use Rattle.course.specs.declared.Place.{Place}
use Rattle.course.specs.declared.Place.TheVariants as Square
use Rattle.pattern.specs.declared.WidePlace.{WidePlace}
use Rattle.pattern.specs.declared.WidePlace.TheVariants.{At, Done}
use Rattle.pattern.specs.Next.{next_column}
use Rattle.trace.specs.Trace as S
use Rattle.wide_trace.specs.WideTrace.{Host, pivots_in}

-- columns 1 to n: up to a stop every column has its pivot
unfoldable pub first_columns : ℕ → List ℕ
first_columns zero = []
first_columns (suc n) = first_columns n ++ (suc n ∷ [])

-- the same place, of m rows and as many columns: where the square stops at column j, the wide passes over it and goes on
abbrev pub wide_at : ℕ → Place → WidePlace
wide_at m (Square.At s) = At s
wide_at m (Square.Stopped j) = next_column m m (first_columns (j - 1)) (j + 1)
wide_at m Square.Done = Done

-- so many pivots are found before a step, and at a place
abbrev pub found_before : ℕ → Step → ℕ
found_before m (Mix j k) = j - 1
found_before m (Check j) = j - 1
found_before m (Scale j) = j
found_before m (Clear j k) = j
found_before m (Open j) = m
found_before m (Lift j) = m

abbrev pub found_at : ℕ → Place → ℕ
found_at m (Square.At s) = found_before m s
found_at m (Square.Stopped j) = j - 1
found_at m Square.Done = m

-- the same table, solution, accepted calls and draws, at the same place
pub record Alike (m : ℕ) (h : S.Host) (w : Host) : Type 0 where
  pub table : w.table ≡ h.table
  pub solution : w.solution ≡ h.solution
  pub steps : w.steps ≡ h.steps
  pub mask : w.mask ≡ h.mask
  pub nonzero : w.nonzero ≡ h.nonzero
  pub place : w.progress.place ≡ wide_at m h.progress.place
  pub pivots : pivots_in w ≡ first_columns (found_at m h.progress.place)
