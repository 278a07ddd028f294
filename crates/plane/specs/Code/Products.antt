-- The products of all words of a row with all shares of the factor: a choice for each bit.
-- Assumes nothing.
use Rattle.std.specs.Prelude.{ℕ, zero, suc, ◌+◌, ◌*◌, List, get_or, set}
use Rattle.std.specs.Int.Bits.{bit_xor, bit_and}
use Rattle.sharing.specs.Run.{run}

-- of k words that stand side by side from b on, those that the k masks from a on choose, joined
unfoldable pub dot : ℕ → List ℕ → ℕ → List ℕ → ℕ → ℕ
dot zero masks a other b = 0
dot (suc k) masks a other b =
    bit_xor (bit_and (get_or masks a 0) (get_or other b 0)) (dot k masks (a + 1) other (b + 1))

-- share i of the factor times the word whose doubles begin at b: place i from q on
unfoldable pub share_turn : ℕ → List ℕ → List ℕ → ℕ → ℕ → ℕ → List ℕ → List ℕ
share_turn bits masks other b q i p = set p (q + i) (dot bits masks (i * bits) other b)

unfoldable pub word_turn : ℕ → ℕ → List ℕ → List ℕ → ℕ → List ℕ → List ℕ
word_turn bits n masks other g p = run (share_turn bits masks other (g * bits) (g * n)) n p

unfoldable pub all_products : ℕ → ℕ → ℕ → List ℕ → List ℕ → List ℕ → List ℕ
all_products bits n count masks other p = run (word_turn bits n masks other) count p
