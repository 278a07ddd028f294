-- A word of 64 bits is eight lanes of a byte each.
-- Assumes nothing.
use Rattle.std.specs.Prelude.{◌≡◌, ℕ, zero, suc, ◌*◌, ◌/◌, ◌%◌, ◌^◌, ◌<◌}
use Rattle.row.specs.Code.Streams.{doubled}

-- lane l of w, from 0: bits 8l to 8l + 7
unfoldable pub lane : ℕ → ℕ → ℕ
lane w l = w / 2 ^ (8 * l) % 256

-- the lanes of a word are g 0 to g 7
pub record Lanes (w : ℕ) (g : ℕ → ℕ) : Type 0 where
  pub at : (l : ℕ) → l < 8 → lane w l ≡ g l

-- all lanes ones
abbrev pub ones : ℕ
ones = 18446744073709551615

-- t times doubled: an element times x^t
unfoldable pub multiple : ℕ → ℕ → ℕ → ℕ
multiple bits zero a = a
multiple bits (suc t) a = doubled bits (multiple bits t a)
