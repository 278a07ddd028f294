-- 02, R-8: the refusals of the wide calls, and the order of each. "Refusals: 1 for any field but F16; 3 is about the rows; 21, columns out of range,
-- after 3, detail the number." The others are 01's, R-2's, R-5's and R-7's, about a table of so many rows of columns+1 entries and a solution
-- of so many columns.
-- Assumes nothing.
use Rattle.std.specs.Prelude.{Bool, true, false, not, List, [], ◌∷◌, ℕ, ◌+◌, eqb, length}
use Rattle.field.specs.Field.{field_of}
use Rattle.sharing.specs.Rules.{sum}
use Rattle.table.specs.Layout.{table_bytes, entry}
use Rattle.course.specs.declared.Draws.{Draws}
use Rattle.course.specs.declared.Step.{Step}
use Rattle.course.specs.declared.Step.TheVariants.{Mix, Check, Scale, Clear, Open, Lift}
use Rattle.course.specs.StepList.{draws}
use Rattle.pattern.specs.declared.WideOrder.{WideOrder}
use Rattle.pattern.specs.declared.WidePlace.{WidePlace}
use Rattle.pattern.specs.declared.WidePlace.TheVariants.{At, Short, Done}
use Rattle.pattern.specs.declared.WideProgress.{WideProgress}
use Rattle.pattern.specs.Pivots.{row_of, listed}
use Rattle.pattern.specs.PatternList.{cost_of, wanted}
use Rattle.pattern.specs.Next.{placed, counted}
use Rattle.verdict.specs.declared.Rows.{Rows}
use Rattle.verdict.specs.declared.Rows.TheVariants.{Shared}
use Rattle.verdict.specs.Told.{Told, passed, refuse, ◌or◌}
use Rattle.verdict.specs.Refusals.{differs, no2, no3, no4, no5, no6, no21, buffers, exactly, at_least}
use Rattle.solver.specs.Refusals.{lift_refused}

-- field not 16: the number
unfoldable pub no1 : ℕ → Told
no1 field = refuse 1 (differs field 16) (field ∷ [])

-- 1, 2, 3, 21: Start, and the lengths wanted
unfoldable pub sizes : WideOrder → Told
sizes o = no1 o.field or no2 o.shares or no3 o.rows or no21 o.rows o.columns

abbrev pub whole_table : WideOrder → ℕ
whole_table o = table_bytes o.shares o.rows (o.columns + 1)

abbrev pub table_rows : WideOrder → Rows
table_rows o = Shared o.shares (o.columns + 1)

-- Solve: 1, 2, 3, 21, 4 to 9
unfoldable pub solve_order : WideOrder → List ℕ → ℕ → ℕ → List ℕ → Told
solve_order o t solution mask nonzero =
    sizes o
    or (buffers o.field (table_rows o) (whole_table o) t o.columns solution
    or at_least o.field (wanted o).mask (wanted o).nonzero mask nonzero)

-- ---- of a record

-- the draws of a place; an ended one has none
unfoldable pub cost_at : WideOrder → WidePlace → Draws
cost_at o (At s) = cost_of o s
cost_at o Short = draws 0 0
cost_at o Done = draws 0 0

unfoldable pub ended : WidePlace → Bool
ended (At s) = false
ended Short = true
ended Done = true

-- a place that its pivots can't have: 0
unfoldable pub no10 : WideProgress → Told
no10 p = refuse 10 (not (placed p)) (0 ∷ [])

-- counters that don't match the pattern so far: 0
unfoldable pub no19 : WideProgress → Told
no19 p = refuse 19 (not (counted p)) (0 ∷ [])

-- record already short or done: 0
unfoldable pub no11 : WidePlace → Told
no11 place = refuse 11 (ended place) (0 ∷ [])

-- Lift where the solution byte that it reads is 16 or more: j
unfoldable pub no20 : WideOrder → WidePlace → List ℕ → Told
no20 o (At s) x = lift_refused o.field s x
no20 o Short x = passed
no20 o Done x = passed

-- Scale where the pivot's value is 0: its row, its column and 0, as the share is none
unfoldable pub scale_refused : WideOrder → List ℕ → Step → List ℕ → Told
scale_refused o ps (Mix j k) t = passed
scale_refused o ps (Check j) t = passed
scale_refused o ps (Scale j) t =
    let r = row_of ps j in
    refuse 12 (eqb (sum (field_of o.field) (entry o.shares (o.columns + 1) r j t)) 0) (r ∷ j ∷ 0 ∷ [])
scale_refused o ps (Clear j k) t = passed
scale_refused o ps (Open j) t = passed
scale_refused o ps (Lift j) t = passed

unfoldable pub no12 : WideOrder → List ℕ → WidePlace → List ℕ → Told
no12 o ps (At s) t = scale_refused o ps s t
no12 o ps Short t = passed
no12 o ps Done t = passed

-- 10, 19, 11
unfoldable pub standing : WideProgress → Told
standing p = no10 p or (no19 p or no11 p.place)

-- Wanted: 1, 2, 3, 21, 10, 19, 11
unfoldable pub wanted_order : WideProgress → Told
wanted_order p =
    sizes p.order
    or standing p

-- 4, 5, 10, 19, 11
unfoldable pub placing : WideProgress → ℕ → ℕ → Told
placing p table solution = no4 (whole_table p.order) table or no5 p.order.columns solution or standing p

-- Step: 1, 2, 3, 21, 4, 5, 10, 19, 11, 6, 7, 14, 8, 15, 9, 20, 12
unfoldable pub step_order : WideProgress → List ℕ → List ℕ → ℕ → List ℕ → Told
step_order p t x mask nonzero =
    let o = p.order in
    let d = cost_at o p.place in
    sizes o
    or (placing p (length t) (length x)
    or (no6 o.field (table_rows o) t
    or (exactly o.field d.mask d.nonzero mask nonzero
    or (no20 o p.place x or no12 o (listed p.pivots) p.place t))))
