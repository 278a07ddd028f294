-- 02, R-8: the steps of a wide solve by its pivots. "This form stands beside the square one and works column by column on the next row without a
-- pivot, until rows or columns run out." "Open and Lift take the pivot columns from the last back (no Lift for the first)." "Mask draws follow a
-- sum over the public pivot pattern."
-- Assumes nothing.
use Rattle.std.specs.Prelude.{List, [], ◌∷◌, ◌++◌, ◌≡◌, ℕ, zero, suc, ◌+◌, ◌-◌, ◌*◌, ◌≤◌, eqb, length, drop}
use Rattle.field.specs.Field.{pick}
use Rattle.sharing.specs.Bounds.{most_rows}
use Rattle.table.specs.Costs.{open_cost}
use Rattle.course.specs.declared.Step.{Step}
use Rattle.course.specs.declared.Step.TheVariants.{Mix, Check, Scale, Clear, Open, Lift}
use Rattle.course.specs.declared.Draws.{Draws}
use Rattle.course.specs.declared.Counts.{Counts}
use Rattle.course.specs.StepList.{each, draws, cost_in, sum_over}
use Rattle.pattern.specs.declared.WideOrder.{WideOrder}
use Rattle.pattern.specs.declared.WidePlace.{WidePlace}
use Rattle.pattern.specs.declared.WidePlace.TheVariants.{At, Short, Done}
use Rattle.pattern.specs.Pivots.{row_of, last, has}

-- the orders that are taken: "F16 systems with 1 to 96 rows and columns from the number of rows to 144"
pub record Sizes (o : WideOrder) : Type 0 where
  pub field : o.field ≡ 16
  pub two : 2 ≤ o.shares
  pub four : o.shares ≤ 4
  pub some : 1 ≤ o.rows
  pub most : o.rows ≤ most_rows
  pub wide : o.rows ≤ o.columns
  pub widest : o.columns ≤ 144

-- a step's draws: "L = columns+2-j", in a row of columns+1
unfoldable pub cost_of : WideOrder → Step → Draws
cost_of o s = cost_in o.field o.shares (o.columns + 1) s

abbrev pub mask_cost : WideOrder → Step → ℕ
mask_cost o s = (cost_of o s).mask

abbrev pub nonzero_cost : WideOrder → Step → ℕ
nonzero_cost o s = (cost_of o s).nonzero

-- column j on row r: Mix(j,k) for the rows k below row r, and Check(j)
unfoldable pub sought : ℕ → ℕ → ℕ → List Step
sought rows r j = each (Mix j) (r + 1) (rows - r) ++ (Check j ∷ [])

-- where Check opened 0: Scale(j), and Clear(j,k) for the same rows
unfoldable pub taken : ℕ → ℕ → ℕ → List Step
taken rows r j = Scale j ∷ each (Clear j) (r + 1) (rows - r)

-- the steps of column j: one that is no pivot is passed over
unfoldable pub visit : ℕ → List ℕ → ℕ → List Step
visit rows ps j = sought rows (row_of ps j) j ++ pick (has ps j) (taken rows (row_of ps j) j) []

-- columns 1 to n
unfoldable pub visits : ℕ → List ℕ → ℕ → List Step
visits rows ps zero = []
visits rows ps (suc n) = visits rows ps n ++ visit rows ps (suc n)

-- Open(j) and Lift(j) for pivots that are not the first, from the last back
unfoldable pub lifted : List ℕ → List Step
lifted [] = []
lifted (p ∷ ps) = lifted ps ++ (Open p ∷ Lift p ∷ [])

-- and for all pivots
unfoldable pub openings : List ℕ → List Step
openings [] = []
openings (p ∷ ps) = lifted ps ++ (Open p ∷ [])

-- the whole list of a pattern: where every row has its pivot no column comes after the last; where one has none all columns were visited, and
-- nothing is opened
unfoldable pub pattern_list : ℕ → ℕ → List ℕ → List Step
pattern_list rows columns ps = pick (eqb (length ps) rows) (visits rows ps (last ps) ++ openings ps) (visits rows ps columns)

-- the steps, mask draws and nonzero draws of a list of steps
unfoldable pub sums : WideOrder → List Step → Counts
sums o l =
    record { steps = length l; mask = sum_over (mask_cost o) l; nonzero = sum_over (nonzero_cost o) l }

-- ---- R-5's counters: the steps before a place, by the pivots found so far

unfoldable pub before_step : ℕ → List ℕ → Step → List Step
before_step rows ps (Mix j k) = let r = row_of ps j in visits rows ps (j - 1) ++ each (Mix j) (r + 1) (k - r - 1)
before_step rows ps (Check j) = let r = row_of ps j in visits rows ps (j - 1) ++ each (Mix j) (r + 1) (rows - r)
before_step rows ps (Scale j) = visits rows ps (j - 1) ++ sought rows (row_of ps j) j
before_step rows ps (Clear j k) =
    let r = row_of ps j in visits rows ps (j - 1) ++ (sought rows r j ++ (Scale j ∷ each (Clear j) (r + 1) (k - r - 1)))
before_step rows ps (Open j) = visits rows ps (last ps) ++ lifted (drop (row_of ps j) ps)
before_step rows ps (Lift j) = visits rows ps (last ps) ++ (lifted (drop (row_of ps j) ps) ++ (Open j ∷ []))

unfoldable pub steps_before : ℕ → ℕ → List ℕ → WidePlace → List Step
steps_before rows columns ps (At s) = before_step rows ps s
steps_before rows columns ps Short = visits rows ps columns
steps_before rows columns ps Done = visits rows ps (last ps) ++ openings ps

-- the draws taken so far
unfoldable pub taken_at : WideOrder → List ℕ → WidePlace → Draws
taken_at o ps place =
    let l = steps_before o.rows o.columns ps place in
    draws (sum_over (mask_cost o) l) (sum_over (nonzero_cost o) l)

-- ---- what the whole solve wants

-- "those of every column as if row 1 took its pivot", for columns 1 to n
unfoldable pub every_column : ℕ → ℕ → List Step
every_column rows zero = []
every_column rows (suc n) = every_column rows n ++ (sought rows 1 (suc n) ++ taken rows 1 (suc n))

-- "The whole solve wants N mask draws a row and those of every column [..], and n-1 nonzero draws a row"
unfoldable pub wanted : WideOrder → Draws
wanted o =
    draws (o.rows * open_cost o.shares + sum_over (mask_cost o) (every_column o.rows o.columns)) (o.rows * (o.shares - 1))
