-- 01's refusals 10 to 12, R-5's 19 and R-7's 20, which are about a progress record, and the order of each call. The others stand in crate verdict.
-- Assumes nothing.
use Rattle.std.specs.Prelude.{Bool, true, false, not, List, [], ◌∷◌, ℕ, ◌+◌, ◌-◌, ◌*◌, eqb, length, get_or}
use Rattle.field.specs.Field.{field_of}
use Rattle.sharing.specs.Rules.{sum}
use Rattle.table.specs.Layout.{table_bytes, entry}
use Rattle.course.specs.declared.Draws.{Draws}
use Rattle.course.specs.declared.Step.{Step}
use Rattle.course.specs.declared.Step.TheVariants.{Mix, Check, Scale, Clear, Open, Lift}
use Rattle.course.specs.declared.Place.{Place}
use Rattle.course.specs.declared.Place.TheVariants.{At, Stopped, Done}
use Rattle.course.specs.declared.Order.{Order}
use Rattle.course.specs.declared.Progress.{Progress}
use Rattle.course.specs.StepList.{in_list, draws, cost_of, Revealed, None, Flag, Pivot, Unknown, revealed_by, full_mask, full_nonzero}
use Rattle.course.specs.Next.{order_of, counted}
use Rattle.verdict.specs.declared.Rows.{Rows}
use Rattle.verdict.specs.declared.Rows.TheVariants.{Shared, Values}
use Rattle.verdict.specs.Told.{Told, passed, refuse, ◌or◌}
use Rattle.verdict.specs.Refusals.{outside, too_large, no4, no5, no6, no7, numbers, buffers, exactly, at_least}

-- ---- what the table's words mean

-- a place of the step list, a stopping column in 1..m, or done
unfoldable pub placed : ℕ → Place → Bool
placed m (At s) = in_list m s
placed m (Stopped j) = not (outside 1 m j)
placed m Done = true

unfoldable pub ended : Place → Bool
ended (At s) = false
ended (Stopped j) = true
ended Done = true

-- the entries of [A | b], and the bytes of its sharing
unfoldable pub entries : ℕ → ℕ
entries m = m * (m + 1)

abbrev pub whole_table : Order → ℕ
whole_table o = table_bytes o.shares o.size (o.size + 1)

-- how a call that reads them finds a cell: rows of m + 1 sharings, or of m + 1 values
abbrev pub table_rows : Order → Rows
table_rows o = Shared o.shares (o.size + 1)

abbrev pub value_rows : Order → Rows
value_rows o = Values (o.size + 1)

-- Deal's draws
unfoldable pub deal_draws : Order → ℕ
deal_draws o = entries o.size * (o.shares - 1)

-- the draws of a place; an ended one has none
unfoldable pub cost_at : Order → Place → Draws
cost_at o (At s) = cost_of o s
cost_at o (Stopped j) = draws 0 0
cost_at o Done = draws 0 0

abbrev pub mask_at : Order → Place → ℕ
mask_at o place = (cost_at o place).mask

abbrev pub nonzero_at : Order → Place → ℕ
nonzero_at o place = (cost_at o place).nonzero

-- what the step of a place opens; an ended one opens nothing
abbrev pub revealed_at : Place → Revealed
revealed_at (At s) = revealed_by s
revealed_at (Stopped j) = None
revealed_at Done = None

-- Scale(j), which opens its pivot, where the value of T[j,j] is 0
unfoldable pub zero_pivot : Order → Revealed → List ℕ → Bool
zero_pivot o None t = false
zero_pivot o (Flag j) t = false
zero_pivot o (Pivot j) t = eqb (sum (field_of o.field) (entry o.shares (o.size + 1) j j t)) 0
zero_pivot o (Unknown j) t = false

-- the j of what is opened
unfoldable pub column_of : Revealed → ℕ
column_of None = 0
column_of (Flag j) = j
column_of (Pivot j) = j
column_of (Unknown j) = j

-- ---- the table: number, meaning, detail

-- place not in the step list for these sizes, or a stopping column outside 1..m: 0
unfoldable pub no10 : ℕ → Place → Told
no10 size place = refuse 10 (not (placed size place)) (0 ∷ [])

-- the counters don't match the place: 0
unfoldable pub no19 : Progress → Told
no19 p = refuse 19 (not (counted p)) (0 ∷ [])

-- record already stopped or done: 0
unfoldable pub no11 : Place → Told
no11 place = refuse 11 (ended place) (0 ∷ [])

-- Lift in F16 where the solution byte that it reads is 16 or more: j
unfoldable pub lift_refused : ℕ → Step → List ℕ → Told
lift_refused f (Mix j k) x = passed
lift_refused f (Check j) x = passed
lift_refused f (Scale j) x = passed
lift_refused f (Clear j k) x = passed
lift_refused f (Open j) x = passed
lift_refused f (Lift j) x = refuse 20 (too_large f (get_or x (j - 1) 0)) (j ∷ [])

unfoldable pub no20 : Order → Place → List ℕ → Told
no20 o (At s) x = lift_refused o.field s x
no20 o (Stopped j) x = passed
no20 o Done x = passed

-- Scale where the pivot's value is 0: row, column and share, which are j, j and 0
unfoldable pub no12 : Order → Place → List ℕ → Told
no12 o place t =
    let j = column_of (revealed_at place) in
    refuse 12 (zero_pivot o (revealed_at place) t) (j ∷ j ∷ 0 ∷ [])

-- ---- the orders. Parentheses mark stages: what stands in one is worked out only once the stage before has passed

-- 1 to 3: Start, and the counts of an order
abbrev pub sizes : Order → Told
sizes o = numbers o.field o.shares o.size

-- Deal: 1 to 7
unfoldable pub deal_order : Order → List ℕ → ℕ → ℕ → Told
deal_order o values target mask =
    sizes o
    or (buffers o.field (value_rows o) (entries o.size) values (whole_table o) target
    or no7 (deal_draws o) mask)

-- Gather: 1 to 6
unfoldable pub gather_order : Order → List ℕ → ℕ → Told
gather_order o t target =
    sizes o
    or buffers o.field (table_rows o) (whole_table o) t (entries o.size) target

-- 7 to 9, over the draws of a full solve
unfoldable pub tapes : Order → ℕ → List ℕ → Told
tapes o mask nonzero = at_least o.field (full_mask o) (full_nonzero o) mask nonzero

-- Solve: 1 to 9
unfoldable pub solve_order : Order → List ℕ → ℕ → ℕ → List ℕ → Told
solve_order o t solution mask nonzero =
    sizes o
    or (buffers o.field (table_rows o) (whole_table o) t o.size solution
    or tapes o mask nonzero)

-- 10, 19, 11: only a place of the list has a sum that the counters can match
unfoldable pub standing : Progress → Told
standing p =
    no10 p.size p.place
    or (no19 p or no11 p.place)

-- Wanted: 1, 2, 3, 10, 19, 11
unfoldable pub wanted_order : Progress → Told
wanted_order p =
    sizes (order_of p)
    or standing p

-- 4, 5, 10, 19, 11
unfoldable pub placing : Progress → ℕ → ℕ → Told
placing p table solution = no4 (whole_table (order_of p)) table or no5 p.size solution or standing p

-- 7, 14, 8, 15, 9, over the draws of the place
unfoldable pub lending : Order → Place → ℕ → List ℕ → Told
lending o place mask nonzero = exactly o.field (mask_at o place) (nonzero_at o place) mask nonzero

-- Step: 1 to 5, 10, 19, 11, 6, 7, 14, 8, 15, 9, 20, 12
unfoldable pub step_order : Progress → List ℕ → List ℕ → ℕ → List ℕ → Told
step_order p t x mask nonzero =
    let o = order_of p in
    sizes o
    or (placing p (length t) (length x)
    or (no6 o.field (table_rows o) t
    or (lending o p.place mask nonzero
    or (no20 o p.place x or no12 o p.place t))))
