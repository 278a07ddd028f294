-- What a join asks of its numbers: how many bits tell a factor, how many pairs there are, and the room that the columns take of a whole row's.
-- Assumes nothing.
use mathlib.Core.Path.{◌≡◌, refl}
use mathlib.Core.Bool.{Bool, true, false}
use mathlib.Core.Logic.{inl, inr}
use Prim.Native.Nat.{ℕ, zero, suc, ◌*◌, ◌≤◌}
use mathlib.Core.List.{List}
use native.Mathlib.Omega.{arith}
use native.Mathlib.Nat.{mul-le-mul_right, mul-le-mul, mul_assoc}
use lib.Dec.{lit≤}
use lib.ListN.{length, get_or}
use Rattle.field.specs.Field.{pick}
use Rattle.field.proofs.Fields.{binary_of}
use Rattle.sharing.specs.Run.{pairs}
use Rattle.word.specs.Rows.{words_of}
use Rattle.plane.proofs.Choosing.{Taken}
use Rattle.table.specs.declared.Shape.{Shape}
use Rattle.word_table.specs.Table.{row_words, Room, Told, by_all, by_one}

field_widths : (b : Bool) → (1 ≤ pick b 4 8) × (pick b 4 8 ≤ 8)
field_widths true = (lit≤ tt, lit≤ tt)
field_widths false = (lit≤ tt, lit≤ tt)

pub told_between : {f w : ℕ} {factor : List ℕ} → Told f factor w → (1 ≤ w) × (w ≤ 8)
told_between {f} by_all = let B = binary_of f in rw B.has (field_widths B.sixteen)
told_between (by_one b) = (lit≤ tt, lit≤ tt)

pub told-taken : {f w : ℕ} {factor : List ℕ} → Told f factor w → (i : ℕ) → Taken f w (get_or factor i 0)
told-taken by_all i = inl refl
told-taken (by_one b) i = inr (refl, b.at i)

-- n = 2, 3, 4 have 1, 3, 6 pairs
pub pairs_some : (n : ℕ) → 2 ≤ n → n ≤ 4 → (1 ≤ pairs n) × (pairs n ≤ 6) × (pairs n ≡ 5 → ⊥)
pairs_some zero a b = absurd (omega arith)
pairs_some (suc zero) a b = absurd (omega arith)
pairs_some (suc (suc zero)) a b = (lit≤ tt, lit≤ tt, λ e. absurd (omega (arith, e)))
pairs_some (suc (suc (suc zero))) a b = (lit≤ tt, lit≤ tt, λ e. absurd (omega (arith, e)))
pairs_some (suc (suc (suc (suc zero)))) a b = (lit≤ tt, lit≤ tt, λ e. absurd (omega (arith, e)))
pairs_some (suc (suc (suc (suc (suc n))))) a b = absurd (omega arith)

-- columns that are no more than w take no more room
module _ (n w columns : ℕ) (l : columns ≤ w) where
  pub words_fewer : words_of columns ≤ words_of w
  words_fewer = omega arith

  pub row_fewer : words_of columns * n ≤ row_words n w
  row_fewer = mul-le-mul_right n words_fewer

module _ (s : Shape) (columns : ℕ) (l : columns ≤ s.columns) {other draws products masks : List ℕ} (R : Room s other draws products masks) where
  few : words_of columns ≤ words_of s.columns
  few = words_fewer s.shares s.columns columns l

  pub draws_room : words_of columns * pairs s.shares ≤ length draws
  draws_room = omega (arith, mul-le-mul_right (pairs s.shares) few, R.for_draws)

  pub products_room : words_of columns * s.shares * s.shares ≤ length products
  products_room = omega (arith, mul_assoc (words_of columns) s.shares s.shares, mul-le-mul_right (s.shares * s.shares) few, R.for_products)

  module _ {b : ℕ} (h : b ≤ 8) where
    pub other_room : words_of columns * s.shares * b ≤ length other
    other_room =
        omega (arith, mul-le-mul {n₁ = words_of columns * s.shares} {m₁ = b} {n₂ = row_words s.shares s.columns} {m₂ = 8} (row_fewer s.shares s.columns columns l) h, R.for_other)

    pub masks_room : s.shares * b ≤ length masks
    masks_room = omega (arith, mul-le-mul {n₁ = s.shares} {m₁ = b} {n₂ = s.shares} {m₂ = 8} (omega arith) h, R.for_masks)
