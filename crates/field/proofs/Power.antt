-- The chain of products of the code's `power254`.
-- Assumes nothing.
use mathlib.Core.Path.{◌≡◌, refl}
use mathlib.Core.List.{[], ◌∷◌}
use Prim.Native.Nat.{ℕ, ◌+◌, ◌<◌}
use native.Mathlib.Numerals.{add-one}
use lib.ListN.{get_or}
use lib.Dec.{ltb, ltb→lt}
use Rattle.field.specs.Code.Power.{chain, linked, along}
use Rattle.field.proofs.Linear.{all-at}

-- with sums in the place of products the chain counts: these are the powers, and the last is 254
powers : along ◌+◌ 1 11 ≡ 1 ∷ 2 ∷ 3 ∷ 6 ∷ 12 ∷ 15 ∷ 30 ∷ 60 ∷ 120 ∷ 240 ∷ 252 ∷ 254 ∷ []
unfolding along linked chain
powers = refl

pub along-next : (mul : ℕ → ℕ → ℕ) (a k : ℕ) → along mul a (k + 1) ≡ linked mul k (along mul a k)
unfolding along
along-next mul a k = rw add-one

-- each place of the chain is one of the twelve
pub chain-below : {k : ℕ} → k < 11 → get_or chain k 0 < 12
unfolding chain
chain-below {k} h = ltb→lt _ _ (all-at 11 (λ k. ltb (get_or chain k 0) 12) tt k h)
