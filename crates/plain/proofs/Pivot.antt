-- The search for a pivot, a row at a time; where it ends, and what it has met.
-- Assumes nothing.
use mathlib.Core.Bool.{Bool}
use mathlib.Core.List.{List}
use mathlib.Core.Path.{◌≡◌, refl, ap}
use mathlib.Core.Logic.{◌≢◌}
use Prim.Native.Nat.{ℕ, zero, suc, ◌+◌, ◌<◌, ◌≤◌}
use native.Mathlib.Decide.{ℕ_discrete, dec_lt}
use native.Mathlib.Omega.{arith}
use borrow.Author.Tests.{eq-eqb, ne_eqb, lt-ltb, le-ltb}
use Rattle.std.specs.Prelude.{Some, None}
use Rattle.field.specs.Field.{pick}
use Rattle.plain.specs.Elimination.{at, seek}
use Rattle.plain.specs.Code.Worked.{one_of}

module _ (w j : ℕ) (t : List ℕ) where
  pub seek-end : (r : ℕ) → seek w j t zero r ≡ r
  unfolding seek
  seek-end r = refl

  module _ {n left : ℕ} (r : ℕ) (e : n ≡ suc left) where
    pub seek-here : at w t r j ≢ 0 → seek w j t n r ≡ r
    unfolding seek
    seek-here h = rw e (ap (λ (b : Bool). pick b (seek w j t left (r + 1)) r) (ne_eqb (at w t r j) 0 h))

    pub seek_on : at w t r j ≡ 0 → seek w j t n r ≡ seek w j t left (r + 1)
    unfolding seek
    seek_on h = rw e (ap (λ (b : Bool). pick b (seek w j t left (r + 1)) r) (eq-eqb (at w t r j) 0 h))

  -- the rows that were passed are 0 in column j, and the row that it ends at is not, where it is one of those looked at
  pub record Met (left r k : ℕ) : Type 0 where
    pub low : r ≤ k
    pub high : k ≤ r + left
    pub passed : (i : ℕ) → r ≤ i → i < k → at w t i j ≡ 0
    pub pivot : k < r + left → at w t k j ≢ 0

  pub met : (left r : ℕ) → Met left r (seek w j t left r)
  met zero r =
      rw (seek-end r)
      (record { low = omega arith; high = omega arith; passed = λ i a b. absurd (omega arith); pivot = λ h. absurd (let z : ⊥ = omega arith in z) })
  met (suc left) r = elim (ℕ_discrete (at w t r j) 0) [
    | yes e ↦
        rw (seek_on {left = left} r refl e)
        (let h = met left (r + 1) in
        record {
          low = omega (arith, h.low);
          high = omega (arith, h.high);
          passed = λ i a b. elim (ℕ_discrete i r) [ yes d ↦ rw d e | no d ↦ h.passed i (omega arith) b ];
          pivot = λ l. h.pivot (omega arith);
        })
    | no n ↦
        rw (seek-here {left = left} r refl n)
        (record { low = omega arith; high = omega arith; passed = λ i a b. absurd (omega arith); pivot = λ l. n })
  ]

-- the search's answer as the code has it: the row, where it is one of the m
module _ (m : ℕ) where
  pub found_is : {k r : ℕ} → k ≡ r → r ≤ m → Some r ≡ one_of m k
  found_is {k} {r} e h = rw (e, le-ltb m r h)

  pub none_is : {k : ℕ} → m < k → None ≡ one_of m k
  none_is {k} h = rw (lt-ltb m k h)

  pub found_row : {k r : ℕ} → Some r ≡ one_of m k → (r ≡ k) × (r ≤ m)
  found_row {k} {r} e = elim (dec_lt m k) [
    | yes h ↦ absurd (let w : Some r ≡ None = rw (lt-ltb m k h) at e in cc)
    | no n ↦
        let h : k ≤ m = omega (arith, n) in
        let w : Some r ≡ Some k = rw (le-ltb m k h) at e in
        let d : r ≡ k = cc in
        (d, omega (arith, d, h))
  ]

  pub no_row : {k : ℕ} → None ≡ one_of m k → m < k
  no_row {k} e = elim (dec_lt m k) [
    | yes h ↦ h
    | no n ↦
        let h : k ≤ m = omega (arith, n) in
        absurd (let w : None ≡ Some k = rw (le-ltb m k h) at e in cc)
  ]
