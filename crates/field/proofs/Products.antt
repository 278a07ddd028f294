-- The table of products of F16: each entry is the product, by one test.
-- Assumes nothing.
use mathlib.Core.Path.{◌≡◌, ◌∙◌, ap₂}
use Prim.Native.Nat.{ℕ, ◌%◌}
use native.Mathlib.Nat.{mod-lt, mod-mod}
use lib.Dec.{lit<}
use mathlib.Core.List.{List, [], ◌∷◌}
use lib.ListN.{get_or}
use Rattle.field.specs.Poly.{times, left, product}
use Rattle.field.specs.Field.{F16}
use Rattle.field.proofs.Table.{table}

unfoldable pub rows : List (List ℕ)
rows =
    (0 ∷ 0 ∷ 0 ∷ 0 ∷ 0 ∷ 0 ∷ 0 ∷ 0 ∷ 0 ∷ 0 ∷ 0 ∷ 0 ∷ 0 ∷ 0 ∷ 0 ∷ 0 ∷ []) ∷
    (0 ∷ 1 ∷ 2 ∷ 3 ∷ 4 ∷ 5 ∷ 6 ∷ 7 ∷ 8 ∷ 9 ∷ 10 ∷ 11 ∷ 12 ∷ 13 ∷ 14 ∷ 15 ∷ []) ∷
    (0 ∷ 2 ∷ 4 ∷ 6 ∷ 8 ∷ 10 ∷ 12 ∷ 14 ∷ 3 ∷ 1 ∷ 7 ∷ 5 ∷ 11 ∷ 9 ∷ 15 ∷ 13 ∷ []) ∷
    (0 ∷ 3 ∷ 6 ∷ 5 ∷ 12 ∷ 15 ∷ 10 ∷ 9 ∷ 11 ∷ 8 ∷ 13 ∷ 14 ∷ 7 ∷ 4 ∷ 1 ∷ 2 ∷ []) ∷
    (0 ∷ 4 ∷ 8 ∷ 12 ∷ 3 ∷ 7 ∷ 11 ∷ 15 ∷ 6 ∷ 2 ∷ 14 ∷ 10 ∷ 5 ∷ 1 ∷ 13 ∷ 9 ∷ []) ∷
    (0 ∷ 5 ∷ 10 ∷ 15 ∷ 7 ∷ 2 ∷ 13 ∷ 8 ∷ 14 ∷ 11 ∷ 4 ∷ 1 ∷ 9 ∷ 12 ∷ 3 ∷ 6 ∷ []) ∷
    (0 ∷ 6 ∷ 12 ∷ 10 ∷ 11 ∷ 13 ∷ 7 ∷ 1 ∷ 5 ∷ 3 ∷ 9 ∷ 15 ∷ 14 ∷ 8 ∷ 2 ∷ 4 ∷ []) ∷
    (0 ∷ 7 ∷ 14 ∷ 9 ∷ 15 ∷ 8 ∷ 1 ∷ 6 ∷ 13 ∷ 10 ∷ 3 ∷ 4 ∷ 2 ∷ 5 ∷ 12 ∷ 11 ∷ []) ∷
    (0 ∷ 8 ∷ 3 ∷ 11 ∷ 6 ∷ 14 ∷ 5 ∷ 13 ∷ 12 ∷ 4 ∷ 15 ∷ 7 ∷ 10 ∷ 2 ∷ 9 ∷ 1 ∷ []) ∷
    (0 ∷ 9 ∷ 1 ∷ 8 ∷ 2 ∷ 11 ∷ 3 ∷ 10 ∷ 4 ∷ 13 ∷ 5 ∷ 12 ∷ 6 ∷ 15 ∷ 7 ∷ 14 ∷ []) ∷
    (0 ∷ 10 ∷ 7 ∷ 13 ∷ 14 ∷ 4 ∷ 9 ∷ 3 ∷ 15 ∷ 5 ∷ 8 ∷ 2 ∷ 1 ∷ 11 ∷ 6 ∷ 12 ∷ []) ∷
    (0 ∷ 11 ∷ 5 ∷ 14 ∷ 10 ∷ 1 ∷ 15 ∷ 4 ∷ 7 ∷ 12 ∷ 2 ∷ 9 ∷ 13 ∷ 6 ∷ 8 ∷ 3 ∷ []) ∷
    (0 ∷ 12 ∷ 11 ∷ 7 ∷ 5 ∷ 9 ∷ 14 ∷ 2 ∷ 10 ∷ 6 ∷ 1 ∷ 13 ∷ 15 ∷ 3 ∷ 4 ∷ 8 ∷ []) ∷
    (0 ∷ 13 ∷ 9 ∷ 4 ∷ 1 ∷ 12 ∷ 8 ∷ 5 ∷ 2 ∷ 15 ∷ 11 ∷ 6 ∷ 3 ∷ 14 ∷ 10 ∷ 7 ∷ []) ∷
    (0 ∷ 14 ∷ 15 ∷ 1 ∷ 13 ∷ 3 ∷ 2 ∷ 12 ∷ 9 ∷ 7 ∷ 6 ∷ 8 ∷ 4 ∷ 10 ∷ 11 ∷ 5 ∷ []) ∷
    (0 ∷ 15 ∷ 13 ∷ 2 ∷ 9 ∷ 6 ∷ 4 ∷ 11 ∷ 1 ∷ 14 ∷ 12 ∷ 3 ∷ 8 ∷ 7 ∷ 5 ∷ 10 ∷ []) ∷ []

entry : (a b : ℕ) → get_or (get_or rows (a % 16) []) (b % 16) 0 ≡ F16.mul (a % 16) (b % 16)
unfolding rows F16 product times left
entry a b = table F16.mul rows 16 16 tt (mod-lt a (lit< tt)) (mod-lt b (lit< tt))

same : (a b : ℕ) → F16.mul (a % 16) (b % 16) ≡ F16.mul a b
unfolding F16
same a b = ap₂ (λ (x y : ℕ). product 4 19 x y) (mod-mod a 16) (mod-mod b 16)

pub row-entry : (a b : ℕ) → get_or (get_or rows (a % 16) []) (b % 16) 0 ≡ F16.mul a b
row-entry a b = entry a b ∙ same a b
