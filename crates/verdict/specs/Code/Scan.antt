-- What a scan for bytes of 16 or more puts together before it looks at them one by one.
-- Assumes nothing.
use Rattle.std.specs.Prelude.{Bool, true, List, ◌≡◌, ℕ, ◌+◌, ◌*◌, length, get_or, set}
use Rattle.std.specs.Int.Bits.{bit_or}
use Rattle.sharing.specs.Run.{run}
use Rattle.sharing.specs.Lists.{Below}

abbrev pub bits_turn : List ℕ → ℕ → ℕ → ℕ
bits_turn s i v = bit_or v (get_or s i 0)

-- the bits that some byte has
unfoldable pub some_bits : List ℕ → ℕ
some_bits s = run (bits_turn s) (length s) 0

-- A long list goes by blocks of 128 bytes, eight rows of sixteen: lane q of the sixteen gets the bits of byte q of each row.
abbrev pub column_turn : List ℕ → ℕ → ℕ → ℕ → ℕ
column_turn s at i v = bit_or v (get_or s (at + i * 16) 0)

unfoldable pub column_bits : List ℕ → ℕ → ℕ
column_bits s at = run (column_turn s at) 8 0

abbrev pub lane_turn : List ℕ → ℕ → ℕ → List ℕ → List ℕ
lane_turn s at q lanes = set lanes q (bit_or (get_or lanes q 0) (column_bits s (at + q)))

unfoldable pub block_bits : List ℕ → ℕ → List ℕ → List ℕ
block_bits s at lanes = run (lane_turn s at) 16 lanes

unfoldable pub blocks_bits : List ℕ → ℕ → List ℕ → List ℕ
blocks_bits s blocks lanes = run (λ u. block_bits s (u * 128)) blocks lanes

-- that all bytes are small is said only where it is so
abbrev pub TellsSmall : Bool → List ℕ → Type 0
TellsSmall r s = r ≡ true → Below 16 s
