-- 01, "Sizes and layout": where an entry stands in the lent bytes. The rows have w entries each, m + 1 in a square system, and are as many
-- as the caller says, so that a step serves tables of any shape.
-- Assumes nothing.
use Rattle.std.specs.Prelude.{ℕ, ◌≡◌, ◌+◌, ◌-◌, ◌*◌, ◌≤◌, List, ◌++◌, length, take, drop}
use Rattle.sharing.specs.Bounds.{most_rows, most_columns}
use Rattle.table.specs.declared.Shape.{Shape}

-- rows and columns are numbered from 1; share s of row r, column c is byte ((r-1)(m+1)+(c-1))n+(s-1)
unfoldable pub cell : ℕ → ℕ → ℕ → ℕ → ℕ
cell n w r c = ((r - 1) * w + (c - 1)) * n

-- the bytes of a table
unfoldable pub table_bytes : ℕ → ℕ → ℕ → ℕ
table_bytes n rows w = rows * w * n

-- k bytes from place p on, and these bytes replaced by s
unfoldable pub part : ℕ → ℕ → List ℕ → List ℕ
part k p t = take k (drop p t)

unfoldable pub put : ℕ → ℕ → List ℕ → List ℕ → List ℕ
put k p s t = take p t ++ (s ++ drop k (drop p t))

-- T[r,c], as its n shares
abbrev pub entry : ℕ → ℕ → ℕ → ℕ → List ℕ → List ℕ
entry n w r c t = part n (cell n w r c) t

-- L, the number of columns from j to the last: m+2-j in a square system
abbrev pub columns_from : ℕ → ℕ → ℕ
columns_from w j = w + 1 - j

-- row r from column j on
abbrev pub row_from : ℕ → ℕ → ℕ → ℕ → List ℕ → List ℕ
row_from n w r j t = part (columns_from w j * n) (cell n w r j) t

abbrev pub put_row : ℕ → ℕ → ℕ → ℕ → List ℕ → List ℕ → List ℕ
put_row n w r j row t = put (columns_from w j * n) (cell n w r j) row t

-- the sizes that the code has room for. What takes no draws takes one byte an entry too, as plain values have it
pub record Fits (n rows w : ℕ) : Type 0 where
  pub shares_high : n ≤ 4
  pub rows_high : rows ≤ most_rows
  pub width_high : w ≤ most_columns

-- what a step asks of the sizes, and of a row and a column
pub record Bounded (n rows w : ℕ) : Type 0 where
  pub shares_low : 2 ≤ n
  pub fits : Fits n rows w

pub record Inside (rows w r c : ℕ) : Type 0 where
  pub row_low : 1 ≤ r
  pub row_high : r ≤ rows
  pub column_low : 1 ≤ c
  pub column_high : c ≤ w

-- a table of a shape's size; and one whose entries are shared
pub record Laid (s : Shape) (t : List ℕ) : Type 0 where
  pub fits : Fits s.shares s.rows s.columns
  pub bytes : length t ≡ table_bytes s.shares s.rows s.columns

pub record Shaped (s : Shape) (t : List ℕ) : Type 0 where
  pub bounded : Bounded s.shares s.rows s.columns
  pub bytes : length t ≡ table_bytes s.shares s.rows s.columns
