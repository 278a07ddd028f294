-- How the code tells of a table of values, of where a search has ended, and of what the elimination has come to.
-- Assumes nothing.
use Rattle.std.specs.Prelude.{List, ℕ, ◌≡◌, ◌+◌, ◌≤◌, Option, Some, None, ltb, length}
use Rattle.field.specs.Field.{pick}
use Rattle.sharing.specs.Bounds.{most_rows}
use Rattle.table.specs.declared.Shape.{Shape}
use Rattle.table.specs.Layout.{table_bytes}
use Rattle.plain.specs.declared.Square.{Square}
use Rattle.plain.specs.Elimination.{Worked, going, halted}

-- the table of a square system of values: it has one byte an entry
abbrev pub Stands : Square → List ℕ → Type 0
Stands s t = (s.size ≤ most_rows) × (length t ≡ table_bytes 1 s.size (s.size + 1))

abbrev pub shape_of : Square → Shape
shape_of s = record { field = s.field; shares = 1; rows = s.size; columns = s.size + 1 }

-- row k, where it is one of m
abbrev pub one_of : ℕ → ℕ → Option ℕ
one_of m k = pick (ltb m k) None (Some k)

-- the column that has no pivot, or the table
abbrev pub worked_as : Option ℕ → List ℕ → Worked
worked_as None t = going t
worked_as (Some j) t = halted j
