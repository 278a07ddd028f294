-- What the passes over bytes do at a place, in row and in flag.
-- Assumes nothing.
use Rattle.std.specs.Prelude.{ℕ, List, get_or, set}
use Rattle.std.specs.Int.Bits.{bit_xor}

abbrev pub xor_at : ℕ → ℕ → List ℕ → List ℕ
xor_at i v s = set s i (bit_xor (get_or s i 0) v)
