-- The product by shifting and adding, turn by turn, as the code has it.
-- Assumes nothing.
use Rattle.std.specs.Prelude.{ℕ, zero, suc, ◌-◌, ◌*◌, ◌/◌, ◌%◌, ◌^◌}
use Rattle.std.specs.Int.Bits.{bit_xor}

-- x·a modulo x^w + r
unfoldable pub double : ℕ → ℕ → ℕ → ℕ
double w r a = bit_xor (a * 2 % 2 ^ w) (a / 2 ^ (w - 1) % 2 * r)

-- k turns: what b's lowest k bits add up to
unfoldable pub shift_add : ℕ → ℕ → ℕ → ℕ → ℕ → ℕ
shift_add w r zero a b = 0
shift_add w r (suc k) a b = bit_xor (b % 2 * a) (shift_add w r k (double w r a) (b / 2))
