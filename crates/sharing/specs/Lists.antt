-- What the laws of the small rules are stated with, besides the rules: sharings joined share by share, the product of a list, lists of
-- elements, and tapes that agree on their first draws.
-- Assumes nothing.
use Rattle.std.specs.Prelude.{◌≡◌, ℕ, ◌<◌, List, [], ◌∷◌, length, get_or}
use Rattle.field.specs.Field.{Ops}
use Rattle.sharing.specs.Run.{tab}
use Rattle.sharing.specs.Rules.{draw_at}

-- share by share: op of the shares of s and of v
unfoldable pub joined : (ℕ → ℕ → ℕ) → List ℕ → List ℕ → List ℕ
joined op s v = tab (length s) (λ i. op (get_or s i 0) (get_or v i 0))

-- the product of all of a list
unfoldable pub product_all : Ops → List ℕ → ℕ
product_all F [] = 1
product_all F (x ∷ fs) = F.mul x (product_all F fs)

-- every number of a list is below q: with a field's own q they are elements
pub record Below (q : ℕ) (s : List ℕ) : Type 0 where
  pub at : (i : ℕ) → get_or s i 0 < q

-- the first k draws of two tapes are the same
pub record SameDraws (F : Ops) (k : ℕ) (ds es : List ℕ) : Type 0 where
  pub at : (i : ℕ) → i < k → draw_at F ds i ≡ draw_at F es i
