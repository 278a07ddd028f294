-- What one turn of the loops over columns does to the sums that they work out, and to the slot that they look at.
-- Assumes nothing.
use mathlib.Core.Bool.{Bool, true, false}
use mathlib.Core.List.{List}
use mathlib.Core.Path.{◌≡◌, refl, sym}
use Prim.Native.Nat.{ℕ, zero, suc, ◌≤◌, ◌+◌, ◌-◌, ◌*◌}
use native.Mathlib.Omega.{arith}
use native.Mathlib.Nat.{suc-mul, mul-le-mul, mul-le-mul_right}
use lib.Dec.{eqb}
use lib.ListN.{get_or}
use borrow.Author.Tests.{le-leb}
use Rattle.std.specs.Int.{from_bool}
use Rattle.field.specs.Field.{pick}
use Rattle.sharing.specs.Bounds.{most_rows, most_draws}
use Rattle.table.specs.Costs.{mix_cost, clear_cost, open_cost}
use Rattle.table.proofs.CostBounds.{mix_few, check_few, scale_few, clear_few, open_few}
use Rattle.pattern.specs.declared.WideOrder.{WideOrder}
use Rattle.pattern.specs.Pivots.{before, row_of, has, ascends}
use Rattle.pattern.specs.Code.Columns.{from, mixing, clearing, column_cost, columns_cost, full_cost, most_column}
use Rattle.pattern.specs.PatternList.{Sizes, wanted}
use Rattle.pattern.proofs.Ascending.{before-next}
use Rattle.pattern.proofs.Taken.{full-sum}

-- the slot behind the pivots before column j tells whether it is one
pub slot_has : (ps : List ℕ) (i j : ℕ) → 1 ≤ j → i ≡ before ps j → eqb (get_or ps i 0) j ≡ has ps j
unfolding has
slot_has ps i j a e = rw (le-leb 1 j a, e)

-- a column more
pub columns_turn : (o : WideOrder) (ps : List ℕ) (j i x : ℕ) (t : Bool) → 1 ≤ j → i ≡ before ps j → t ≡ has ps j → x ≡ column_cost o (i + 1) j t
    → columns_cost o ps (j - 1) + x ≡ columns_cost o ps (j + 1 - 1)
unfolding columns_cost row_of
columns_turn o ps zero i x t l e h k = absurd (let n : ⊥ = omega arith in n)
columns_turn o ps (suc c) i x t l e h k =
    let a : suc c - 1 ≡ c = omega arith in
    let b : suc c + 1 - 1 ≡ suc c = omega arith in
    rw (a, b, k, h, e)

one : (t : Bool) → from_bool t ≡ pick t 1 0
one true = refl
one false = refl

pub slot_turn : (high : ℕ) (ps : List ℕ) → ascends 0 high ps ≡ true → (j i r : ℕ) (t : Bool) → 1 ≤ j → i ≡ before ps j → t ≡ has ps j → r ≡ from_bool t
    → i + r ≡ before ps (j + 1)
slot_turn high ps a j i r t l e h k =
    let n : j + 1 ≡ suc j = omega arith in
    rw (n, k, one t, h, e) (sym (before-next high 0 ps a j l))

pub full_turn : (o : WideOrder) (j x : ℕ) → 1 ≤ j → x ≡ column_cost o 1 j true → full_cost o (j - 1) + x ≡ full_cost o (j + 1 - 1)
unfolding full_cost
full_turn o zero x l k = absurd (let n : ⊥ = omega arith in n)
full_turn o (suc c) x l k =
    let a : suc c - 1 ≡ c = omega arith in
    let b : suc c + 1 - 1 ≡ suc c = omega arith in
    rw (a, b, k)

-- so many columns take no more
pub most_turn : (j s x : ℕ) → 1 ≤ j → s ≤ (j - 1) * most_column → x ≤ most_column → s + x ≤ (j + 1 - 1) * most_column
most_turn zero s x l a b = absurd (let n : ⊥ = omega arith in n)
most_turn (suc c) s x l a b =
    let e : suc c - 1 ≡ c = omega arith in
    let f : suc c + 1 - 1 ≡ suc c = omega arith in
    rw f (omega (arith, suc-mul c most_column, rw e at a))

pub most_columns_lem : (n s : ℕ) → s ≤ n * most_column → n ≤ 144 → s ≤ 144 * most_column
most_columns_lem n s a b = omega (arith, mul-le-mul_right most_column b)

-- and so what the whole solve wants is not large
module _ (o : WideOrder) (z : Sizes o) where
  mixing_few : (k j : ℕ) → k ≤ most_rows → 1 ≤ j → mixing o k j ≤ most_rows * most_draws
  unfolding mixing
  mixing_few k j h a =
      mul-le-mul {n₁ = k} {m₁ = mix_cost o.field o.shares (from o j)} {n₂ = most_rows} {m₂ = most_draws} h
      (mix_few o.field o.shares (from o j) z.four (omega (arith, z.widest)))

  clearing_few : (k j : ℕ) → k ≤ most_rows → 1 ≤ j → clearing o k j ≤ most_rows * most_draws
  unfolding clearing
  clearing_few k j h a =
      mul-le-mul {n₁ = k} {m₁ = clear_cost o.shares (from o j)} {n₂ = most_rows} {m₂ = most_draws} h
      (omega (arith, clear_few o.shares (from o j) z.four (omega (arith, z.widest))))

  full_few : (n : ℕ) → n ≤ o.columns → full_cost o n ≤ n * most_column
  unfolding full_cost column_cost
  full_few zero l = omega arith
  full_few (suc n) l =
      omega (arith, full_few n (omega arith), mixing_few (o.rows - 1) (suc n) (omega (arith, z.most)) (omega arith), clearing_few (o.rows - 1) (suc n) (omega (arith, z.most)) (omega arith), check_few o.field o.shares z.four, scale_few o.shares (from o (suc n)) z.four (omega (arith, z.widest)), suc-mul n most_column)

  pub wanted_few : ((wanted o).mask ≤ 145 * most_column) × ((wanted o).nonzero ≤ most_rows * 3)
  unfolding wanted
  wanted_few =
      let open-most = mul-le-mul {n₁ = o.rows} {m₁ = open_cost o.shares} {n₂ = most_rows} {m₂ = most_draws} z.most (open_few o.shares z.four) in (
        omega (arith, open-most, full-sum o o.columns, full_few o.columns (omega arith), mul-le-mul_right most_column z.widest),
        mul-le-mul {n₁ = o.rows} {m₁ = o.shares - 1} {n₂ = most_rows} {m₂ = 3} z.most (omega (arith, z.four)),
      )
