-- How the code joins a row: so many columns at a time, found by their first bytes.
-- Assumes nothing.
use Rattle.std.specs.Prelude.{ℕ, ◌*◌, Bool, List}
use Rattle.field.specs.Field.{Ops}
use Rattle.table.specs.Layout.{part, put}
use Rattle.table.specs.Steps.{join_row}

-- the columns from byte p on += or -= Product(factor, those from byte o on)
unfoldable pub join_part : Ops → Bool → ℕ → ℕ → ℕ → ℕ → List ℕ → List ℕ → List ℕ → List ℕ
join_part F minus n columns p o factor ds t =
    put (columns * n) p (join_row F minus n columns ds factor (part (columns * n) o t) (part (columns * n) p t)) t
