-- The factor's shares, over and over, and below them their doubles, the doubles of these, and so on: with them a product is a choice for
-- each bit of the other byte.
-- Assumes nothing.
use Rattle.std.specs.Prelude.{ℕ, ◌+◌, ◌-◌, ◌*◌, ◌/◌, ◌%◌, List, eqb, get_or, set}
use Rattle.std.specs.Int.Bits.{bit_xor}
use Rattle.field.specs.Field.{pick}
use Rattle.sharing.specs.Run.{run}

-- an element a times the polynomial x, in the field of w bits (4 or 8)
unfoldable pub doubled : ℕ → ℕ → ℕ
doubled bits a =
    pick (eqb bits 4) (bit_xor (a * 2 % 16) (a / 8 % 2 * 3)) (bit_xor (a * 2 % 256) (a / 128 % 2 * 27))

abbrev pub once_turn : List ℕ → ℕ → ℕ → List ℕ → List ℕ
once_turn a at s m = set m (at + s) (get_or a s 0)

unfoldable pub repeat_turn : ℕ → List ℕ → ℕ → List ℕ → List ℕ
repeat_turn n a u m = run (once_turn a (u * n)) n m

unfoldable pub repeated : ℕ → ℕ → List ℕ → List ℕ → List ℕ
repeated n turns a m = run (repeat_turn n a) turns m

-- byte q doubled, r places on
unfoldable pub double_turn : ℕ → ℕ → ℕ → List ℕ → List ℕ
double_turn bits r q m = set m (q + r) (doubled bits (get_or m q 0))

unfoldable pub doubled_rows : ℕ → ℕ → List ℕ → List ℕ
doubled_rows bits r m = run (double_turn bits r) ((bits - 1) * r) m
