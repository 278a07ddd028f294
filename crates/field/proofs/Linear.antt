-- Functions that respect sums of polynomials, and equality of two of them from a test at the powers of x.
-- Assumes nothing.
use mathlib.Core.Path.{◌≡◌, refl, sym, ap, ap₂, ◌∙◌, subst, subst⁻¹}
use mathlib.Core.Bool.{Bool, true, false}
use mathlib.Core.Logic.{⊎_elim}
use Prim.Native.Nat.{ℕ, zero, suc, ◌*◌, ◌/◌, ◌%◌, ◌^◌, ◌<◌}
use native.Mathlib.Nat.{mod-lt, zero-mul, one-mul, add-zero, pow-succ', eq-or-lt_of_le, le_of_suc-le-suc, not-suc-le-zero, lt-suc_self, lt_trans, div-lt_iff_lt-mul}
use lib.Arith.{lt-one}
use lib.Pow.{pow_pos, split}
use lib.Dec.{T}
use lib.Bits.{bit_xor, xor_self, xor_zero_r, xor_shr, xor_mod, xor_shifted, xor_block, xor_lt, differ}
use Rattle.field.proofs.Xor.{bit, bit_lt, xor_odd, xor_swap}

-- f of a sum is the sum of f
pub record Additive (f : ℕ → ℕ) : Type 0 where
  pub sum : (a b : ℕ) → f (bit_xor a b) ≡ bit_xor (f a) (f b)

pub same : Additive (λ a. a)
same = record { sum = λ a b. refl }

pub after : {f g : ℕ → ℕ} → Additive f → Additive g → Additive (λ a. f (g a))
after {f} {g} p q = record { sum = λ a b. ap f (q.sum a b) ∙ p.sum (g a) (g b) }

pub plus : {f g : ℕ → ℕ} → Additive f → Additive g → Additive (λ a. bit_xor (f a) (g a))
plus {f} {g} p q =
    record { sum = λ a b. ap₂ bit_xor (p.sum a b) (q.sum a b) ∙ xor_swap (f a) (f b) (g a) (g b) }

pub shifted : (k : ℕ) → Additive (λ a. a * 2 ^ k)
shifted k =
    record {
      sum = λ a b. sym
          (ap₂ bit_xor (sym (add-zero (a * 2 ^ k))) (sym (add-zero (b * 2 ^ k))) ∙ xor_block k a b 0 0 (pow_pos k) (pow_pos k)
          ∙ add-zero (bit_xor a b * 2 ^ k));
    }

pub high : (k : ℕ) → Additive (λ a. a / 2 ^ k)
high k = record { sum = λ a b. xor_shr a b k }

pub low : (k : ℕ) → Additive (λ a. a % 2 ^ k)
low k = record { sum = λ a b. xor_mod a b k }

-- a bit times c
by_bit : (c : ℕ) {x y : ℕ} → x < 2 → y < 2 → differ x y * c ≡ bit_xor (x * c) (y * c)
by_bit c {x} {y} hx hy =
    bit (λ (n : ℕ). differ n y * c ≡ bit_xor (n * c) (y * c)) (sym (ap (λ (z : ℕ). bit_xor z (y * c)) (zero-mul c)))
    (bit (λ (n : ℕ). differ 1 n * c ≡ bit_xor (1 * c) (n * c)) (sym (ap (bit_xor (1 * c)) (zero-mul c) ∙ xor_zero_r (1 * c)))
    (zero-mul c ∙ sym (xor_self (1 * c))) hy)
    hx

pub lowest_times : (c : ℕ) → Additive (λ a. a % 2 * c)
lowest_times c =
    record { sum = λ a b. ap (λ (x : ℕ). x * c) (xor_odd a b) ∙ by_bit c (bit_lt a) (bit_lt b) }

pub bit_times : (a : ℕ) → Additive (λ b. a % 2 * b)
bit_times a =
    record {
      sum = λ b c. bit (λ (n : ℕ). n * bit_xor b c ≡ bit_xor (n * b) (n * c)) (zero-mul (bit_xor b c) ∙ sym (ap₂ bit_xor (zero-mul b) (zero-mul c)))
          (one-mul (bit_xor b c) ∙ sym (ap₂ bit_xor (one-mul b) (one-mul c)))
          (bit_lt a);
    }

pub at_zero : {f : ℕ → ℕ} → Additive f → f 0 ≡ 0
at_zero {f} p = p.sum 0 0 ∙ xor_self (f 0)

-- ---- tests at every place below k

abbrev pub both : Bool → Bool → Bool
both true b = b
both false b = false

abbrev pub all : ℕ → (ℕ → Bool) → Bool
all zero f = true
all (suc k) f = both (f k) (all k f)

pub both_left : (a b : Bool) → T (both a b) → T a
both_left true b t = tt
both_left false b t = t

pub both_right : (a b : Bool) → T (both a b) → T b
both_right true b t = t
both_right false b t = absurd t

pub all-at : (k : ℕ) (f : ℕ → Bool) → T (all k f) → (i : ℕ) → i < k → T (f i)
all-at zero f t i h = absurd (not-suc-le-zero h)
all-at (suc k) f t i h =
    ⊎_elim (λ e. subst (λ (j : ℕ). T (f j)) (sym e) (both_left (f k) (all k f) t))
    (λ l. all-at k f (both_right (f k) (all k f) t) i l)
    (eq-or-lt_of_le (le_of_suc-le-suc h))

abbrev pub all₂ : ℕ → (ℕ → ℕ → Bool) → Bool
all₂ k f = all k (λ i. all k (f i))

pub all₂-at : (k : ℕ) (f : ℕ → ℕ → Bool) → T (all₂ k f) → (i : ℕ) → i < k → (j : ℕ) → j < k → T (f i j)
all₂-at k f t i hi = all-at k (f i) (all-at k (λ i. all k (f i)) t i hi)

abbrev pub all₃ : ℕ → (ℕ → ℕ → ℕ → Bool) → Bool
all₃ k f = all k (λ i. all₂ k (f i))

pub all₃-at : (k : ℕ) (f : ℕ → ℕ → ℕ → Bool) → T (all₃ k f) → (i : ℕ) → i < k → (j : ℕ) → j < k → (l : ℕ) → l < k → T (f i j l)
all₃-at k f t i hi = all₂-at k (f i) (all-at k (λ i. all₂ k (f i)) t i hi)

-- ---- two additive functions that agree at the powers of x agree

below_double : {a : ℕ} (k : ℕ) → a < 2 ^ suc k → a / 2 ^ k < 2
below_double {a} k h = (div-lt_iff_lt-mul (pow_pos k)).1 (subst (λ (n : ℕ). a < n) (pow-succ' 2 k) h)

-- the coefficient of x^k apart
parted : (a k : ℕ) → a ≡ bit_xor (a / 2 ^ k * 2 ^ k) (a % 2 ^ k)
parted a k = sym (xor_shifted (a / 2 ^ k) k (a % 2 ^ k) (mod-lt a (pow_pos k)) ∙ split a k)

pub agree : {f g : ℕ → ℕ} → Additive f → Additive g → (k : ℕ) → ((i : ℕ) → i < k → f (2 ^ i) ≡ g (2 ^ i)) → (a : ℕ) → a < 2 ^ k
    → f a ≡ g a
agree {f} {g} p q zero e a h = ap f (lt-one h) ∙ at_zero p ∙ sym (ap g (lt-one h) ∙ at_zero q)
agree {f} {g} p q (suc k) e a h =
    ap f (parted a k) ∙ p.sum (a / 2 ^ k * 2 ^ k) (a % 2 ^ k)
    ∙ ap₂ bit_xor
    (bit (λ (n : ℕ). f (n * 2 ^ k) ≡ g (n * 2 ^ k))
    (ap f (zero-mul (2 ^ k)) ∙ at_zero p ∙ sym (ap g (zero-mul (2 ^ k)) ∙ at_zero q))
    (ap f (one-mul (2 ^ k)) ∙ e k (lt-suc_self k) ∙ sym (ap g (one-mul (2 ^ k))))
    (below_double k h))
    (agree p q k (λ i l. e i (lt_trans l (lt-suc_self k))) (a % 2 ^ k) (mod-lt a (pow_pos k)))
    ∙ sym (ap g (parted a k) ∙ q.sum (a / 2 ^ k * 2 ^ k) (a % 2 ^ k))

-- what stays below 2^n at the powers of x stays below it
pub under : {f : ℕ → ℕ} → Additive f → (n k : ℕ) → ((i : ℕ) → i < k → f (2 ^ i) < 2 ^ n) → (a : ℕ) → a < 2 ^ k → f a < 2 ^ n
under {f} p n zero e a h = subst⁻¹ (λ (x : ℕ). x < 2 ^ n) (ap f (lt-one h) ∙ at_zero p) (pow_pos n)
under {f} p n (suc k) e a h =
    subst⁻¹ (λ (x : ℕ). x < 2 ^ n) (ap f (parted a k) ∙ p.sum (a / 2 ^ k * 2 ^ k) (a % 2 ^ k))
    (xor_lt n (f (a / 2 ^ k * 2 ^ k)) (f (a % 2 ^ k))
    (bit (λ (x : ℕ). f (x * 2 ^ k) < 2 ^ n)
    (subst⁻¹ (λ (x : ℕ). x < 2 ^ n) (ap f (zero-mul (2 ^ k)) ∙ at_zero p) (pow_pos n))
    (subst⁻¹ (λ (x : ℕ). f x < 2 ^ n) (one-mul (2 ^ k)) (e k (lt-suc_self k)))
    (below_double k h))
    (under p n k (λ i l. e i (lt_trans l (lt-suc_self k))) (a % 2 ^ k) (mod-lt a (pow_pos k))))

-- ---- in two arguments

pub record Bilinear (f : ℕ → ℕ → ℕ) : Type 0 where
  pub first : (b : ℕ) → Additive (λ a. f a b)
  pub second : (a : ℕ) → Additive (f a)

pub agree₂ : {f g : ℕ → ℕ → ℕ} → Bilinear f → Bilinear g → (k : ℕ)
    → ((i : ℕ) → i < k → (j : ℕ) → j < k → f (2 ^ i) (2 ^ j) ≡ g (2 ^ i) (2 ^ j))
    → (a : ℕ) → a < 2 ^ k → (b : ℕ) → b < 2 ^ k → f a b ≡ g a b
agree₂ p q k e a ha b hb =
    agree (p.first b) (q.first b) k (λ i l. agree (p.second (2 ^ i)) (q.second (2 ^ i)) k (e i l) b hb) a ha
