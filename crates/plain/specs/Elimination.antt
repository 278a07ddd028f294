-- R-1: ordinary elimination with exchange of rows, on the values themselves. They stand in row order, one byte an entry, which is 01's layout
-- with one share. A system of m equations has m rows and w = m + 1 columns, numbered from 1; column w is b.
-- Assumes nothing.
use Rattle.std.specs.Prelude.{List, ℕ, zero, suc, ◌+◌, ◌-◌, ◌*◌, eqb, ltb, get_or, set, replicate}
use Rattle.field.specs.Field.{sub, inv, field_of, pick}
use Rattle.sharing.specs.Run.{run}
use Rattle.sharing.specs.Rules.{scaled}
use Rattle.sharing.specs.Lists.{joined}
use Rattle.table.specs.Layout.{row_from, put_row}
use Rattle.table.specs.Steps.{lift}
use Rattle.algebra.specs.Linear.{Answer, solved, stopped}

-- T[r,c] is byte (r-1)(m+1)+(c-1)
unfoldable pub at : ℕ → List ℕ → ℕ → ℕ → ℕ
at w t r c = get_or t ((r - 1) * w + (c - 1)) 0

-- the first row, from row r down, whose entry in column j is not 0; the row after the last where there is none. `left` rows are looked at
unfoldable pub seek : ℕ → ℕ → List ℕ → ℕ → ℕ → ℕ
seek w j t zero r = r
seek w j t (suc left) r = pick (eqb (at w t r j) 0) (seek w j t left (r + 1)) r

-- rows a and b exchanged from column j on; before it both are 0
unfoldable pub exchange : ℕ → ℕ → ℕ → ℕ → List ℕ → List ℕ
exchange w a b j t = put_row 1 w b j (row_from 1 w a j t) (put_row 1 w a j (row_from 1 w b j t) t)

-- row j times the inverse of its pivot T[j,j]
unfoldable pub scale : ℕ → ℕ → ℕ → List ℕ → List ℕ
scale f w j t = put_row 1 w j j (scaled (field_of f) (inv (field_of f) (at w t j j)) (row_from 1 w j j t)) t

-- row k loses T[k,j] times row j
unfoldable pub clear : ℕ → ℕ → ℕ → ℕ → List ℕ → List ℕ
clear f w j k t =
    put_row 1 w k j (joined (sub (field_of f)) (row_from 1 w k j t) (scaled (field_of f) (at w t k j) (row_from 1 w j j t))) t

-- for k = j+1..m
unfoldable pub clear_below : ℕ → ℕ → ℕ → List ℕ → List ℕ
clear_below f m j t = run (λ i. clear f (m + 1) j (j + 1 + i)) (m - j) t

-- column j, whose pivot was found in row k
unfoldable pub column : ℕ → ℕ → ℕ → ℕ → List ℕ → List ℕ
column f m j k t = clear_below f m j (scale f (m + 1) j (exchange (m + 1) j k j t))

-- every column has its pivot, and the table is left so; or a column that has none from row j down
pub data Worked : Type 0 where
  going : List ℕ → Worked
  halted : ℕ → Worked

-- column after column, `left` of them from column j on
unfoldable pub eliminate : ℕ → ℕ → ℕ → ℕ → List ℕ → Worked
eliminate f m zero j t = going t
eliminate f m (suc left) j t =
    let k = seek (m + 1) j t (m + 1 - j) j in
    pick (ltb m k) (halted j) (eliminate f m left (j + 1) (column f m j k t))

-- back substitution, for j = left down to 1: x_j is what stands in row j's last column, and the rows above lose x_j times their T[k,j]
unfoldable pub unknowns : ℕ → ℕ → ℕ → List ℕ → List ℕ → List ℕ
unknowns f m zero t x = x
unknowns f m (suc left) t x =
    let v = at (m + 1) t (suc left) (m + 1) in
    unknowns f m left (lift f 1 (m + 1) (suc left) (suc left) v t) (set x left v)

-- the answer, and the bytes of the solution: x, or m zeros
pub record Solution : Type 0 where
  pub answer : Answer
  pub solution : List ℕ

unfoldable pub conclude : ℕ → ℕ → List ℕ → Worked → Solution
conclude f m x (going t) = record { answer = solved; solution = unknowns f m m t x }
conclude f m x (halted j) = record { answer = stopped j; solution = replicate m 0 }

-- the plain solve of values into the m bytes x
unfoldable pub solves : ℕ → ℕ → List ℕ → List ℕ → Solution
solves f m values x = conclude f m x (eliminate f m m 1 values)
