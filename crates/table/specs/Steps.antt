-- 01, "The step list", with Open in two by R-7 of 02: what each step does to the table. r is the row that takes column j's pivot; in a square
-- system it is j, and the table has w = m + 1 columns. ds and nz are the parts of the two tapes that begin at the step's own first draw.
-- Assumes nothing.
use Rattle.std.specs.Prelude.{ℕ, ◌+◌, ◌-◌, ◌*◌, Bool, true, false, List, get_or, drop}
use Rattle.field.specs.Field.{Ops, sub, field_of, pick}
use Rattle.sharing.specs.Run.{run, pairs}
use Rattle.sharing.specs.Lists.{joined}
use Rattle.sharing.specs.Rules.{refresh, product, opening, scaled, factors, inversion_draws}
use Rattle.flag.specs.Flag.{zero_flag, flag_draws}
use Rattle.table.specs.Layout.{cell, part, put, entry, columns_from, row_from, put_row}

-- columns in order: n bytes each, of which column u (from 0) becomes turn u of itself
abbrev pub column_turn : ℕ → (ℕ → List ℕ → List ℕ) → ℕ → List ℕ → List ℕ
column_turn n turn u row = put n (u * n) (turn u (part n (u * n) row)) row

unfoldable pub over_columns : ℕ → (ℕ → List ℕ → List ℕ) → ℕ → List ℕ → List ℕ
over_columns n turn columns row = run (column_turn n turn) columns row

-- += or -=
unfoldable pub signed : Ops → Bool → ℕ → ℕ → ℕ
signed F minus = pick minus (sub F) F.add

-- one column: an entry += or -= Product(factor, the other row's entry)
unfoldable pub join_turn : Ops → Bool → ℕ → List ℕ → List ℕ → List ℕ → ℕ → List ℕ → List ℕ
join_turn F minus n ds factor other u e =
    joined (signed F minus) e (product F (drop (u * pairs n) ds) factor (part n (u * n) other))

-- columns in order: row += or -= Product(factor, other row)
unfoldable pub join_row : Ops → Bool → ℕ → ℕ → List ℕ → List ℕ → List ℕ → List ℕ → List ℕ
join_row F minus n columns ds factor other row = over_columns n (join_turn F minus n ds factor other) columns row

-- columns j to the last in order: row a += or -= Product(factor, row b)
unfoldable pub join_rows : Ops → Bool → ℕ → ℕ → ℕ → ℕ → ℕ → List ℕ → List ℕ → List ℕ → List ℕ
join_rows F minus n w a b j factor ds t =
    put_row n w a j (join_row F minus n (columns_from w j) ds factor (row_from n w b j t) (row_from n w a j t)) t

-- Mix(j,k): flag of T[j,j]; then columns j..m+1 in order: row j += Product(flag, row k)
unfoldable pub mix : ℕ → ℕ → ℕ → ℕ → ℕ → ℕ → List ℕ → List ℕ → List ℕ
mix f n w r j k ds t =
    join_rows (field_of f) false n w r k j (zero_flag f ds (entry n w r j t)) (drop (flag_draws f n) ds) t

-- Check(j): flag of T[j,j], opened; 1 means stop at column j; table unchanged
unfoldable pub check : ℕ → ℕ → ℕ → ℕ → ℕ → List ℕ → List ℕ → ℕ
check f n w r j ds t = opening (field_of f) (drop (flag_draws f n) ds) (zero_flag f ds (entry n w r j t))

-- one factor, columns in order: multiply all shares, Refresh
unfoldable pub scale_turn : Ops → ℕ → ℕ → List ℕ → ℕ → List ℕ → List ℕ
scale_turn F n z ds u e = refresh F (drop (u * (n - 1)) ds) (scaled F z e)

unfoldable pub scale_row : Ops → ℕ → ℕ → ℕ → List ℕ → List ℕ → List ℕ
scale_row F n columns z ds row = over_columns n (scale_turn F n z ds) columns row

-- for each factor in order
unfoldable pub factor_turn : Ops → ℕ → ℕ → List ℕ → List ℕ → ℕ → List ℕ → List ℕ
factor_turn F n columns fs ds i row = scale_row F n columns (get_or fs i 0) (drop (i * (columns * (n - 1))) ds) row

unfoldable pub scale_all : Ops → ℕ → ℕ → List ℕ → List ℕ → List ℕ → List ℕ
scale_all F n columns fs ds row = run (factor_turn F n columns fs ds) n row

-- Scale(j): inverts T[j,j]; for each factor in order, columns j..m+1 in order: multiply all shares, Refresh
unfoldable pub scale : ℕ → ℕ → ℕ → ℕ → ℕ → List ℕ → List ℕ → List ℕ → List ℕ
scale f n w r j nz ds t =
    let fs = factors (field_of f) nz ds (entry n w r j t) in
    put_row n w r j (scale_all (field_of f) n (columns_from w j) fs (drop (inversion_draws n) ds) (row_from n w r j t)) t

-- Clear(j,k): copies T[k,j] first; columns j..m+1 in order: row k -= Product(copy, row j)
unfoldable pub clear : ℕ → ℕ → ℕ → ℕ → ℕ → ℕ → List ℕ → List ℕ → List ℕ
clear f n w r j k ds t = join_rows (field_of f) true n w k r j (entry n w k j t) ds t

-- Open(j): opens T[j,m+1] to x_j (table entry itself unchanged)
unfoldable pub unknown_at : ℕ → ℕ → ℕ → ℕ → List ℕ → List ℕ → ℕ
unknown_at f n w r ds t = opening (field_of f) ds (entry n w r w t)

-- Lift(j): for k < j takes x_j·T[k,j] from T[k,m+1] share by share
unfoldable pub lift_turn : Ops → ℕ → ℕ → ℕ → ℕ → ℕ → List ℕ → List ℕ
lift_turn F n w j x i t =
    put n (cell n w (i + 1) w) (joined (sub F) (entry n w (i + 1) w t) (scaled F x (entry n w (i + 1) j t))) t

unfoldable pub lift : ℕ → ℕ → ℕ → ℕ → ℕ → ℕ → List ℕ → List ℕ
lift f n w r j x t = run (lift_turn (field_of f) n w j x) (r - 1) t
