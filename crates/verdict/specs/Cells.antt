-- R-2, "Tell us which cell": the row, column and share of a byte that a call reads.
-- Assumes nothing.
use Rattle.std.specs.Prelude.{List, [], ◌∷◌, ◌≡◌, ℕ, ◌+◌, ◌-◌, ◌*◌, ◌/◌, ◌%◌, ◌≤◌}
use Rattle.verdict.specs.declared.Cell.{Cell}
use Rattle.verdict.specs.declared.Rows.{Rows}
use Rattle.verdict.specs.declared.Rows.TheVariants.{Shared, Values}

abbrev pub cell : ℕ → ℕ → ℕ → Cell
cell row column share = record { row = row; column = column; share = share }

-- as a refusal's detail
abbrev pub three : Cell → List ℕ
three c = c.row ∷ c.column ∷ c.share ∷ []

-- the cell of the byte at a place, from 0. A table has n shares an entry and w entries a row; values have no shares: share 0
unfoldable pub cell_at : Rows → ℕ → Cell
cell_at (Shared n w) place = cell (place / (n * w) + 1) (place / n % w + 1) (place % n + 1)
cell_at (Values w) place = cell (place / w + 1) (place % w + 1) 0

-- an entry has a byte at least, and a row an entry
abbrev pub NonEmpty : Rows → Type 0
NonEmpty (Shared n w) = (1 ≤ n) × (1 ≤ w)
NonEmpty (Values w) = 1 ≤ w

-- ---- 01's layout the other way; proofs/Cells.antt proves that the two agree

-- "share s of row r, column c is byte ((r-1)(m+1)+(c-1))n+(s-1)"; values have a byte an entry, in the same row order
unfoldable pub byte_at : Rows → Cell → ℕ
byte_at (Shared n w) c = ((c.row - 1) * w + (c.column - 1)) * n + (c.share - 1)
byte_at (Values w) c = (c.row - 1) * w + (c.column - 1)

-- the bytes of m rows
unfoldable pub bytes_of : Rows → ℕ → ℕ
bytes_of (Shared n w) m = m * w * n
bytes_of (Values w) m = m * w

-- a cell of m rows
unfoldable pub CellOf : Rows → ℕ → Cell → Type 0
CellOf (Shared n w) m c =
    (1 ≤ c.row) × (c.row ≤ m) × (1 ≤ c.column) × (c.column ≤ w) × (1 ≤ c.share) × (c.share ≤ n)
CellOf (Values w) m c = (1 ≤ c.row) × (c.row ≤ m) × (1 ≤ c.column) × (c.column ≤ w) × (c.share ≡ 0)
