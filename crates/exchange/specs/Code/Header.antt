-- What stands before the table in a record whose table has k bytes.
-- Assumes nothing.
use Rattle.std.specs.Prelude.{List, [], ◌∷◌, ◌++◌, ℕ}
use Rattle.exchange.specs.Record.{pair, tagged}

unfoldable pub header_of : ℕ → ℕ → ℕ → ℕ → List ℕ
header_of f n m k = tagged 1 (pair f) ++ (tagged 2 (n ∷ []) ++ (tagged 3 (m ∷ []) ++ (4 ∷ pair k)))
