-- How the code works out the draws taken at a place: those of the columns that are done, one after the other, and those of its own column or of the
-- openings beyond them.
-- Assumes nothing.
use Rattle.std.specs.Prelude.{Bool, true, List, ℕ, zero, suc, ◌+◌, ◌-◌, ◌*◌, length}
use Rattle.field.specs.Field.{pick}
use Rattle.sharing.specs.Bounds.{most_rows, most_draws}
use Rattle.table.specs.Layout.{columns_from}
use Rattle.table.specs.Costs.{mix_cost, check_cost, scale_cost, clear_cost, open_cost}
use Rattle.course.specs.declared.Step.{Step}
use Rattle.course.specs.declared.Step.TheVariants.{Mix, Check, Scale, Clear, Open, Lift}
use Rattle.pattern.specs.declared.WideOrder.{WideOrder}
use Rattle.pattern.specs.declared.WidePlace.{WidePlace}
use Rattle.pattern.specs.declared.WidePlace.TheVariants.{At, Short, Done}
use Rattle.pattern.specs.Pivots.{row_of, last, has}

module _ (o : WideOrder) where
  -- L, the columns of a row from j on
  abbrev pub from : ℕ → ℕ
  from j = columns_from (o.columns + 1) j

  -- so many Mix, and so many Clear, of column j
  unfoldable pub mixing : ℕ → ℕ → ℕ
  mixing k j = k * mix_cost o.field o.shares (from j)

  unfoldable pub clearing : ℕ → ℕ → ℕ
  clearing k j = k * clear_cost o.shares (from j)

  -- all steps of column j on row r; t tells whether it is a pivot
  unfoldable pub column_cost : ℕ → ℕ → Bool → ℕ
  column_cost r j t =
      mixing (o.rows - r) j + check_cost o.field o.shares + pick t (scale_cost o.shares (from j) + clearing (o.rows - r) j) 0

  -- and of columns 1 to n
  unfoldable pub columns_cost : List ℕ → ℕ → ℕ
  columns_cost ps zero = 0
  columns_cost ps (suc n) = columns_cost ps n + column_cost (row_of ps (suc n)) (suc n) (has ps (suc n))

  -- the same as if row 1 took each of them
  unfoldable pub full_cost : ℕ → ℕ
  full_cost zero = 0
  full_cost (suc n) = full_cost n + column_cost 1 (suc n) true

  -- how many columns are done at a step, and at a place
  unfoldable pub step_done : List ℕ → Step → ℕ
  step_done ps (Mix j k) = j - 1
  step_done ps (Check j) = j - 1
  step_done ps (Scale j) = j - 1
  step_done ps (Clear j k) = j - 1
  step_done ps (Open j) = last ps
  step_done ps (Lift j) = last ps

  abbrev pub done_columns : List ℕ → WidePlace → ℕ
  done_columns ps (At s) = step_done ps s
  done_columns ps Short = o.columns
  done_columns ps Done = last ps

  -- the mask draws beyond them
  unfoldable pub step_beyond : List ℕ → Step → ℕ
  step_beyond ps (Mix j k) = mixing (k - row_of ps j - 1) j
  step_beyond ps (Check j) = mixing (o.rows - row_of ps j) j
  step_beyond ps (Scale j) = mixing (o.rows - row_of ps j) j + check_cost o.field o.shares
  step_beyond ps (Clear j k) =
      mixing (o.rows - row_of ps j) j + check_cost o.field o.shares + (scale_cost o.shares (from j) + clearing (k - row_of ps j - 1) j)
  step_beyond ps (Open j) = (o.rows - row_of ps j) * open_cost o.shares
  step_beyond ps (Lift j) = (o.rows - row_of ps j + 1) * open_cost o.shares

  abbrev pub beyond : List ℕ → WidePlace → ℕ
  beyond ps (At s) = step_beyond ps s
  beyond ps Short = 0
  beyond ps Done = o.rows * open_cost o.shares

-- the Scales before a step, and before a place: one for each pivot found, but for its own
unfoldable pub step_scales : List ℕ → Step → ℕ
step_scales ps (Mix j k) = length ps
step_scales ps (Check j) = length ps
step_scales ps (Scale j) = length ps - 1
step_scales ps (Clear j k) = length ps
step_scales ps (Open j) = length ps
step_scales ps (Lift j) = length ps

abbrev pub scales_before : List ℕ → WidePlace → ℕ
scales_before ps (At s) = step_scales ps s
scales_before ps Short = length ps
scales_before ps Done = length ps

-- no column takes more
abbrev pub most_column : ℕ
most_column = 2 * (most_draws + most_rows * most_draws)
