-- The power 254 of an element of F256, by a chain of products (R-4).
-- Assumes nothing.
use Rattle.std.specs.Prelude.{List, [], ◌∷◌, ℕ, zero, suc, ◌+◌, get_or, set, replicate}
use Rattle.field.specs.Field.{F256}

-- each product is of the power before it and of one whose place, from 0, stands here
unfoldable pub chain : List ℕ
chain = 0 ∷ 0 ∷ 2 ∷ 3 ∷ 2 ∷ 5 ∷ 6 ∷ 7 ∷ 8 ∷ 4 ∷ 1 ∷ []

-- product number k is put behind the powers that it is made of
unfoldable pub linked : (ℕ → ℕ → ℕ) → ℕ → List ℕ → List ℕ
linked mul k ps = set ps (k + 1) (mul (get_or ps k 0) (get_or ps (get_or chain k 0) 0))

-- the powers of a after k products; places that are still empty hold 0
unfoldable pub along : (ℕ → ℕ → ℕ) → ℕ → ℕ → List ℕ
along mul a zero = set (replicate 12 0) 0 a
along mul a (suc k) = linked mul k (along mul a k)

unfoldable pub power254 : ℕ → ℕ
power254 a = get_or (along F256.mul a 11) 11 0
