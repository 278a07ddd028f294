-- What respects exclusive or respects the sum of a share: so lane by lane, and modulo q.
-- Assumes nothing.
use mathlib.Core.Path.{◌≡◌, ap₂, ◌∙◌}
use Prim.Native.Nat.{ℕ, zero, suc, ◌+◌, ◌-◌, ◌<◌}
use native.Mathlib.Omega.{arith}
use lib.Bits.{bit_xor}
use Rattle.field.proofs.Linear.{Additive, at_zero}
use Rattle.sharing.specs.Run.{run, before, pairs}
use Rattle.sharing.proofs.Pairs.{pair_lt}
use Rattle.row.specs.Code.Shares.{own_draws, pair_sum, share_sum}
use Rattle.plane.proofs.Orders.{joins}

module _ {L : ℕ → ℕ} (A : Additive L) where
  joins_of : (g h : ℕ → ℕ) (m x y : ℕ) → ((i : ℕ) → i < m → L (g i) ≡ h i) → L x ≡ y → L (joins g m x) ≡ joins h m y
  unfolding run
  joins_of g h zero x y e d = d
  joins_of g h (suc m) x y e d =
      A.sum (joins g m x) (g m) ∙ ap₂ bit_xor (joins_of g h m x y (λ i l. e i (omega arith)) d) (e m (omega arith))

  module _ (n : ℕ) (Z Z' : ℕ → ℕ) (P P' : ℕ → ℕ → ℕ) (s : ℕ) (hs : s < n)
      (hz : (k : ℕ) → k < pairs n → L (Z k) ≡ Z' k) (hp : (i j : ℕ) → i < n → j < n → L (P i j) ≡ P' i j)
    where
      pair_of : (i : ℕ) → i < s → L (pair_sum n Z P s i) ≡ pair_sum n Z' P' s i
      unfolding pair_sum
      pair_of i hi =
          let k : ℕ = before n i + (s - suc i) in
          A.sum (bit_xor (Z k) (P i s)) (P s i)
          ∙ ap₂ bit_xor
          (A.sum (Z k) (P i s) ∙ ap₂ bit_xor (hz k (pair_lt n i (s - suc i) (omega arith) (omega arith))) (hp i s (omega arith) hs))
          (hp s i hs (omega arith))

      draws_of : L (own_draws n Z s) ≡ own_draws n Z' s
      unfolding own_draws
      draws_of =
          joins_of (λ v. Z (before n s + v)) (λ v. Z' (before n s + v)) (n - suc s) 0 0 (λ v hv. hz (before n s + v) (pair_lt n s v hs hv)) (at_zero A)

      pub share_of : L (share_sum n Z P s) ≡ share_sum n Z' P' s
      unfolding share_sum
      share_of =
          joins_of (pair_sum n Z P s) (pair_sum n Z' P' s) s (bit_xor (own_draws n Z s) (P s s)) (bit_xor (own_draws n Z' s) (P' s s)) pair_of
          (A.sum (own_draws n Z s) (P s s) ∙ ap₂ bit_xor draws_of (hp s s hs hs))
