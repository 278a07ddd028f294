-- Each word of a row takes its products and draws: the own terms first, then pair by pair.
-- g is where the n words of the row begin, q where their n·n products do, and k where their draws do.
-- Assumes nothing.
use Rattle.std.specs.Prelude.{ℕ, suc, ◌+◌, ◌-◌, ◌*◌, List, get_or}
use Rattle.std.specs.Int.Bits.{bit_xor}
use Rattle.sharing.specs.Run.{run, before, pairs}
use Rattle.sharing.specs.Code.Bytes.{xor_at}

-- the term of share i and share i joins share i
unfoldable pub own_turn : ℕ → ℕ → List ℕ → ℕ → ℕ → List ℕ → List ℕ
own_turn n g p q i row = xor_at (g + i) (get_or p (q + (i * n + i)) 0) row

-- z' of the pair i < j, whose draw is number d: the draw joins the first cross term, and then the second does
unfoldable pub crossed_at : ℕ → List ℕ → ℕ → List ℕ → ℕ → ℕ → ℕ → ℕ
crossed_at n p q z d i j =
    bit_xor (bit_xor (get_or z d 0) (get_or p (q + (j * n + i)) 0)) (get_or p (q + (i * n + j)) 0)

-- pair number v of those of i, the first of which has draw number k: the draw joins share i, and z' share i + 1 + v
unfoldable pub pair_turn : ℕ → ℕ → List ℕ → ℕ → List ℕ → ℕ → ℕ → ℕ → List ℕ → List ℕ
pair_turn n g p q z k i v row =
    xor_at (g + (i + 1 + v)) (crossed_at n p q z (k + v) i (i + 1 + v)) (xor_at (g + i) (get_or z (k + v) 0) row)

unfoldable pub pairs_turn : ℕ → ℕ → List ℕ → ℕ → List ℕ → ℕ → ℕ → List ℕ → List ℕ
pairs_turn n g p q z k i row = run (pair_turn n g p q z (k + before n i) i) (n - suc i) row

-- the n words of eight columns
unfoldable pub word_sums : ℕ → List ℕ → List ℕ → ℕ → List ℕ → List ℕ
word_sums n p z u row =
    run (pairs_turn n (u * n) p (u * (n * n)) z (u * pairs n)) n (run (own_turn n (u * n) p (u * (n * n))) n row)

unfoldable pub all_sums : ℕ → ℕ → List ℕ → List ℕ → List ℕ → List ℕ
all_sums n words p z row = run (word_sums n p z) words row
