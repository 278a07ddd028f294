-- What the passes leave of Product in a share, as plain exclusive or.
-- Assumes nothing.
use Rattle.std.specs.Prelude.{ℕ, suc, ◌+◌, ◌-◌}
use Rattle.std.specs.Int.Bits.{bit_xor}
use Rattle.sharing.specs.Run.{run, before}

-- the draws that are taken from share s. Z k is draw number k
unfoldable pub own_draws : ℕ → (ℕ → ℕ) → ℕ → ℕ
own_draws n Z s = run (λ v x. bit_xor x (Z (before n s + v))) (n - suc s) 0

-- z' of the pair i < s: the draw joins the first cross term, and then the second does. P i j is a_i·b_j
unfoldable pub pair_sum : ℕ → (ℕ → ℕ) → (ℕ → ℕ → ℕ) → ℕ → ℕ → ℕ
pair_sum n Z P s i = bit_xor (bit_xor (Z (before n i + (s - suc i))) (P i s)) (P s i)

unfoldable pub share_sum : ℕ → (ℕ → ℕ) → (ℕ → ℕ → ℕ) → ℕ → ℕ
share_sum n Z P s = run (λ i x. bit_xor x (pair_sum n Z P s i)) s (bit_xor (own_draws n Z s) (P s s))
