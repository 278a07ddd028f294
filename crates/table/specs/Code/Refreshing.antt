-- How the code refreshes a row: entry by entry, after the whole row was multiplied.
-- Assumes nothing.
use Rattle.std.specs.Prelude.{ℕ, ◌-◌, ◌*◌, List, drop}
use Rattle.field.specs.Field.{Ops}
use Rattle.sharing.specs.Rules.{refresh}
use Rattle.table.specs.Steps.{over_columns}

-- one column, with its own draws
unfoldable pub refresh_column : Ops → ℕ → List ℕ → ℕ → List ℕ → List ℕ
refresh_column F n ds u e = refresh F (drop (u * (n - 1)) ds) e

unfoldable pub refresh_row : Ops → ℕ → ℕ → List ℕ → List ℕ → List ℕ
refresh_row F n columns ds row = over_columns n (refresh_column F n ds) columns row
