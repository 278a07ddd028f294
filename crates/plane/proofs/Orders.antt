-- The order in which numbers join: what `row`'s law of a share has for itself, here for the sums of words.
-- Assumes nothing.
use mathlib.Core.Path.{◌≡◌, refl, sym, ap, ◌∙◌}
use Prim.Native.Nat.{ℕ, zero, suc, ◌+◌, ◌-◌}
use lib.Bits.{bit_xor, xor_comm}
use Rattle.field.proofs.Xor.{xor_assoc}
use Rattle.sharing.specs.Run.{run, before}
use Rattle.row.specs.Code.Shares.{own_draws, pair_sum, share_sum}

abbrev pub joins : (ℕ → ℕ) → ℕ → ℕ → ℕ
joins g m x = run (λ i x. bit_xor x (g i)) m x

pub joins-xor : (g : ℕ → ℕ) (m x y : ℕ) → joins g m (bit_xor x y) ≡ bit_xor (joins g m x) y
unfolding run
joins-xor g zero x y = refl
joins-xor g (suc m) x y =
    ap (λ (k : ℕ). bit_xor k (g m)) (joins-xor g m x y)
    ∙ xor_assoc (joins g m x) y (g m) ∙ ap (bit_xor (joins g m x)) (xor_comm y (g m)) ∙ sym (xor_assoc (joins g m x) (g m) y)

-- the draws last, as Product has them
pub draws-last : (n : ℕ) (Z : ℕ → ℕ) (P : ℕ → ℕ → ℕ) (s : ℕ)
    → share_sum n Z P s ≡ joins (λ v. Z (before n s + v)) (n - suc s) (joins (pair_sum n Z P s) s (P s s))
unfolding share_sum own_draws
draws-last n Z P s =
    let d : ℕ = joins (λ v. Z (before n s + v)) (n - suc s) 0 in
    let p : ℕ = joins (pair_sum n Z P s) s (P s s) in
    ap (joins (pair_sum n Z P s) s) (xor_comm d (P s s)) ∙ joins-xor (pair_sum n Z P s) s (P s s) d ∙ xor_comm p d
    ∙ sym (joins-xor (λ v. Z (before n s + v)) (n - suc s) 0 p)
