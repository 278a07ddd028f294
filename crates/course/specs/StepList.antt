-- 01, "The step list", with R-7's Lift: the list of a size, the draws of each step of it and what it opens, and sums over lists of steps.
-- Assumes nothing.
use Rattle.std.specs.Prelude.{Bool, ◌&&◌, List, [], ◌∷◌, ◌++◌, ◌⊎◌, ◌≡◌, ℕ, zero, suc, ◌+◌, ◌-◌, ◌≤◌, ltb, leb, length}
use Rattle.sharing.specs.Bounds.{most_rows}
use Rattle.table.specs.Layout.{columns_from}
use Rattle.table.specs.Costs.{mix_cost, check_cost, scale_cost, scale_nonzero, clear_cost, open_cost}
use Rattle.course.specs.declared.Step.{Step}
use Rattle.course.specs.declared.Step.TheVariants.{Mix, Check, Scale, Clear, Open, Lift}
use Rattle.course.specs.declared.Draws.{Draws}
use Rattle.course.specs.declared.Order.{Order}
use Rattle.course.specs.declared.Counts.{Counts}

-- the orders that are taken: F16 or F256, n shares (2 to 4), m equations in m unknowns (1 to 96)
pub record Sizes (o : Order) : Type 0 where
  pub field : (o.field ≡ 16) ⊎ (o.field ≡ 256)
  pub two : 2 ≤ o.shares
  pub four : o.shares ≤ 4
  pub some : 1 ≤ o.size
  pub most : o.size ≤ most_rows

-- step a, step (a + 1), .., n of them
unfoldable pub each : (ℕ → Step) → ℕ → ℕ → List Step
each step a zero = []
each step a (suc n) = step a ∷ each step (a + 1) n

-- Mix(j,k) for k = j+1..m; Check(j); Scale(j); Clear(j,k) for k = j+1..m
unfoldable pub column : ℕ → ℕ → List Step
column m j = each (Mix j) (j + 1) (m - j) ++ (Check j ∷ Scale j ∷ each (Clear j) (j + 1) (m - j))

-- n columns from j on
unfoldable pub columns : ℕ → ℕ → ℕ → List Step
columns m j zero = []
columns m j (suc n) = column m j ++ columns m (j + 1) n

-- Open(j) for j = n down to 1; 02, R-7: Lift "exists for j from m down to 2, directly after Open(j)"
unfoldable pub openings : ℕ → List Step
openings zero = []
openings (suc zero) = Open 1 ∷ []
openings (suc (suc n)) = Open (suc (suc n)) ∷ Lift (suc (suc n)) ∷ openings (suc n)

-- for j = 1..m the column's steps; then Open(j) for j = m down to 1, with its Lift
unfoldable pub step_list : ℕ → List Step
step_list m = columns m 1 m ++ openings m

-- every step up to and including Check(j)
unfoldable pub up_to : ℕ → ℕ → List Step
up_to m j = columns m 1 (j - 1) ++ (each (Mix j) (j + 1) (m - j) ++ (Check j ∷ []))

-- whether a step is one of the list: 1 ≤ j ≤ m, j < k ≤ m where it has a k, and there is no Lift(1)
unfoldable pub in_list : ℕ → Step → Bool
in_list m (Mix j k) = leb 1 j && (ltb j k && leb k m)
in_list m (Check j) = leb 1 j && leb j m
in_list m (Scale j) = leb 1 j && leb j m
in_list m (Clear j k) = leb 1 j && (ltb j k && leb k m)
in_list m (Open j) = leb 1 j && leb j m
in_list m (Lift j) = leb 2 j && leb j m

-- the j of a step: the column that it works in
abbrev pub column_of : Step → ℕ
column_of (Mix j k) = j
column_of (Check j) = j
column_of (Scale j) = j
column_of (Clear j k) = j
column_of (Open j) = j
column_of (Lift j) = j

abbrev pub draws : ℕ → ℕ → Draws
draws mask nonzero = record { mask = mask; nonzero = nonzero }

-- a step's mask draws and its nonzero draws, in field f, with n shares and rows of w columns; Lift has none
unfoldable pub cost_in : ℕ → ℕ → ℕ → Step → Draws
cost_in f n w (Mix j k) = draws (mix_cost f n (columns_from w j)) 0
cost_in f n w (Check j) = draws (check_cost f n) 0
cost_in f n w (Scale j) = draws (scale_cost n (columns_from w j)) (scale_nonzero n)
cost_in f n w (Clear j k) = draws (clear_cost n (columns_from w j)) 0
cost_in f n w (Open j) = draws (open_cost n) 0
cost_in f n w (Lift j) = draws 0 0

-- in a square system a row has m+1 columns: L = m+2-j
unfoldable pub cost_of : Order → Step → Draws
cost_of o s = cost_in o.field o.shares (o.size + 1) s

abbrev pub mask_cost : Order → Step → ℕ
mask_cost o s = (cost_of o s).mask

abbrev pub nonzero_cost : Order → Step → ℕ
nonzero_cost o s = (cost_of o s).nonzero

-- what a step opens, with its j: Check the flag of T[j,j], Scale T[j,j] itself, blinded, and Open the unknown x_j. Lift opens nothing: its x_j is
-- lent
pub data Revealed : Type 0 where
  None : Revealed
  Flag : ℕ → Revealed
  Pivot : ℕ → Revealed
  Unknown : ℕ → Revealed

unfoldable pub revealed_by : Step → Revealed
revealed_by (Mix j k) = None
revealed_by (Check j) = Flag j
revealed_by (Scale j) = Pivot j
revealed_by (Clear j k) = None
revealed_by (Open j) = Unknown j
revealed_by (Lift j) = None

unfoldable pub sum_over : (Step → ℕ) → List Step → ℕ
sum_over cost [] = 0
sum_over cost (s ∷ ss) = cost s + sum_over cost ss

-- the steps, mask draws and nonzero draws of a list of steps
unfoldable pub sums : Order → List Step → Counts
sums o l =
    record { steps = length l; mask = sum_over (mask_cost o) l; nonzero = sum_over (nonzero_cost o) l }

-- those of a full solve
abbrev pub full_mask : Order → ℕ
full_mask o = sum_over (mask_cost o) (step_list o.size)

abbrev pub full_nonzero : Order → ℕ
full_nonzero o = sum_over (nonzero_cost o) (step_list o.size)
