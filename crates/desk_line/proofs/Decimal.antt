-- The decimal of a number: its rule at every number, without the bound of its definition, and that io's fewest digits are it.
-- Assumes nothing.
use mathlib.Core.Bool.{Bool, true, false}
use mathlib.Core.List.{List, [], ◌∷◌, ◌++◌}
use mathlib.Core.Path.{◌≡◌, refl, sym, ap, ◌∙◌}
use Prim.Native.Nat.{ℕ, zero, suc, ◌-◌, ◌/◌, ◌%◌, ◌^◌, ◌≤◌, ◌<◌}
use native.Mathlib.Nat.{div-lt_self, mod-lt, mod-eq_of_lt, div-lt_iff_lt-mul, le-div_iff_mul-le, le_of_suc-le-suc, lt_of_not-le, pow-suc, one-le-pow, pow-le-pow_right}
use native.Mathlib.Omega.{arith}
use borrow.Author.Tests.{ltb-false, lt-ltb, le-ltb}
use lib.Dec.{ltb, lit<}
use Rattle.io.specs.Digits.{hex_digit_ascii, last_digits, IsDigitCount}
use Rattle.desk_line.specs.Text.{digit, spelled, decimal}

-- any two bounds above n give the same
enough : (j k n : ℕ) → n < j → n < k → spelled j (ltb n 10) n ≡ spelled k (ltb n 10) n
unfolding spelled
enough zero k n a b = absurd (omega arith)
enough (suc j) zero n a b = absurd (omega arith)
enough (suc j) (suc k) n a b = by (ltb n 10) refl (λ less. enough j k (n / 10) (omega arith) (omega arith))
  where
    by : (small : Bool) → ltb n 10 ≡ small → (n / 10 < n → spelled j (ltb (n / 10) 10) (n / 10) ≡ spelled k (ltb (n / 10) 10) (n / 10))
        → spelled (suc j) small n ≡ spelled (suc k) small n
    by true e again = refl
    by false e again =
        let big = ltb-false n 10 e in
        rw (again (div-lt_self (omega arith) (lit< tt)))

-- below 10: the one digit
pub decimal_small : (n : ℕ) → n < 10 → decimal n ≡ digit n ∷ []
unfolding decimal spelled
decimal_small n h = rw (lt-ltb n 10 h)

-- from 10 on: the decimal of n / 10, and then the last digit
pub decimal_large : (n : ℕ) → 10 ≤ n → decimal n ≡ decimal (n / 10) ++ (digit (n % 10) ∷ [])
unfolding decimal spelled
decimal_large n h =
    let less : n / 10 < n = div-lt_self (omega arith) (lit< tt) in
    rw (le-ltb n 10 h, enough n (suc (n / 10)) (n / 10) less (omega arith))

-- a digit below 10 is io's
glyph_digit : (d : ℕ) → d < 10 → hex_digit_ascii d ≡ digit d
glyph_digit d h = rw (lt-ltb d 10 h)

-- the fewest digits that hold n, one at least, are its decimal
pub fewest_decimal : (k n : ℕ) → IsDigitCount 10 1 n k → last_digits 10 k n ≡ decimal n
fewest_decimal zero n f = absurd (omega (arith, f.0))
fewest_decimal (suc zero) n f =
    let h : n < 10 = f.1 in
    ap (λ (d : ℕ). hex_digit_ascii d ∷ []) (mod-eq_of_lt h) ∙ ap (λ (d : ℕ). d ∷ []) (glyph_digit n h) ∙ sym (decimal_small n h)
fewest_decimal (suc (suc k)) n f =
    let e : suc (suc k) - 1 ≡ suc k = omega arith in
    let low : 10 ^ suc k ≤ n = rw e at (f.2 (omega arith)) in
    let some : 1 ≤ 10 ^ k = one-le-pow k 10 (lit< tt) in
    let big : 10 ≤ n = omega (arith, pow-suc 10 k) in
    let fits : n / 10 < 10 ^ suc k = (div-lt_iff_lt-mul {k = 10} (lit< tt)).1 (omega (arith, f.1, pow-suc 10 (suc k))) in
    let e' : suc k - 1 ≡ k = omega arith in
    let least : 10 ^ k ≤ n / 10 = (le-div_iff_mul-le {k = 10} (lit< tt)).1 (omega (arith, pow-suc 10 k)) in
    let most : 1 < suc k → 10 ^ (suc k - 1) ≤ n / 10 = λ h. rw e' least in
    ap (λ (l : List ℕ). l ++ (hex_digit_ascii (n % 10) ∷ [])) (fewest_decimal (suc k) (n / 10) (omega arith, fits, most))
    ∙ ap (λ (d : ℕ). decimal (n / 10) ++ (d ∷ [])) (glyph_digit (n % 10) (mod-lt n (lit< tt)))
    ∙ sym (decimal_large n big)

-- a number of 64 bits has 20 digits at most
pub at_most_twenty : (n k : ℕ) → n < 2 ^ 64 → IsDigitCount 10 1 n k → k ≤ 20
at_most_twenty n k h f = le_of_suc-le-suc (lt_of_not-le over)
  where
    over : 20 < k → ⊥
    over more =
        let low : 10 ^ (k - 1) ≤ n = f.2 (omega arith) in
        let grows : 10 ^ 20 ≤ 10 ^ (k - 1) = pow-le-pow_right {n = 10} (lit< tt) {i = 20} {j = k - 1} (omega arith) in
        omega arith
