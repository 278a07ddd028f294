-- Where a byte stands among rows of equal length: place o of row d is d·span + o, within the rows, and no other row's.
-- Assumes nothing.
use mathlib.Core.Path.{◌≡◌, ap}
use Prim.Native.Nat.{ℕ, ◌+◌, ◌*◌, ◌<◌}
use native.Mathlib.Omega.{arith}
use native.Mathlib.Decide.{dec_lt}
use native.Mathlib.Nat.{suc-mul, mul-le-mul_right}

-- place o of row d, of n rows of span
pub place_in : (n span d o : ℕ) → d < n → o < span → d * span + o < n * span
place_in n span d o hd ho = omega (arith, suc-mul d span, mul-le-mul_right span hd)

-- a place is in one row
pub same_row : (span d o e p : ℕ) → o < span → p < span → d * span + o ≡ e * span + p → d ≡ e
same_row span d o e p ho hp h = elim (dec_lt d e) [
  | yes g ↦ absurd (omega (arith, suc-mul d span, mul-le-mul_right span g))
  | no g ↦ elim (dec_lt e d) [
    | yes k ↦ absurd (omega (arith, suc-mul e span, mul-le-mul_right span k))
    | no k ↦ omega arith
  ]
]

-- and at one place of it
pub same_place : (span d o e p : ℕ) → o < span → p < span → d * span + o ≡ e * span + p → o ≡ p
same_place span d o e p ho hp h =
    omega (arith, ap (λ (x : ℕ). x * span) (same_row span d o e p ho hp h))
