-- Each byte of the row, times each share of the factor, joins one of the n rows of span bytes.
-- Assumes nothing.
use Rattle.std.specs.Prelude.{ℕ, zero, suc, ◌+◌, ◌-◌, ◌*◌, ◌/◌, ◌%◌, List, get_or}
use Rattle.std.specs.Int.Bits.{bit_xor}
use Rattle.sharing.specs.Run.{run}
use Rattle.sharing.specs.Code.Bytes.{xor_at}

-- y times what stands at g of m, whose doubles stand r places on, and so on for k bits of y
unfoldable pub term : List ℕ → ℕ → ℕ → ℕ → ℕ → ℕ
term m r zero g y = 0
term m r (suc k) g y = bit_xor (y % 2 * get_or m g 0) (term m r k (g + r) (y / 2))

-- byte o of the row, y, which is byte q of its block: row d takes its product with the share that stands d places before it
unfoldable pub byte_turn : ℕ → ℕ → ℕ → ℕ → List ℕ → ℕ → ℕ → ℕ → ℕ → List ℕ → List ℕ
byte_turn bits n r span m y o q d c = xor_at (d * span + o) (term m r bits (q + n - d) y) c

unfoldable pub byte_products : ℕ → ℕ → ℕ → ℕ → List ℕ → ℕ → ℕ → ℕ → List ℕ → List ℕ
byte_products bits n r span m y o q c = run (byte_turn bits n r span m y o q) n c

-- byte q of the block that begins at `at`
abbrev pub product_byte_turn : ℕ → ℕ → ℕ → ℕ → List ℕ → List ℕ → ℕ → ℕ → List ℕ → List ℕ
product_byte_turn bits n r span b m at q c = byte_products bits n r span m (get_or b (at + q) 0) (at + q) q c

unfoldable pub block_products : ℕ → ℕ → ℕ → ℕ → ℕ → List ℕ → List ℕ → ℕ → List ℕ → List ℕ
block_products bits n l r span b m u c = run (product_byte_turn bits n r span b m (u * l)) l c

unfoldable pub all_products : ℕ → ℕ → ℕ → ℕ → ℕ → ℕ → List ℕ → List ℕ → List ℕ → List ℕ
all_products bits n l r blocks span b m c = run (block_products bits n l r span b m) blocks c
