-- Scale on a row of bytes apart from its table: what the row from the pivot on becomes.
-- Assumes nothing.
use Rattle.std.specs.Prelude.{ℕ, List, take, drop}
use Rattle.field.specs.Field.{field_of}
use Rattle.sharing.specs.Rules.{factors, inversion_draws}
use Rattle.table.specs.Steps.{scale_all}

-- the first entry is the pivot
unfoldable pub scale_bytes : ℕ → ℕ → ℕ → List ℕ → List ℕ → List ℕ → List ℕ
scale_bytes f n columns nz ds row =
    scale_all (field_of f) n columns (factors (field_of f) nz ds (take n row)) (drop (inversion_draws n) ds) row
