-- `term` is the field's product where m holds the factor and, r places apart, its doubles.
-- Assumes nothing.
use mathlib.Core.Path.{◌≡◌, refl, sym, ap, ap₂, ◌∙◌}
use mathlib.Core.Bool.{Bool, true, false}
use Prim.Native.Nat.{ℕ, zero, suc, ◌+◌, ◌-◌, ◌*◌, ◌/◌, ◌%◌, ◌^◌, ◌<◌}
use mathlib.Core.List.{List}
use native.Mathlib.Omega.{arith}
use native.Mathlib.Nat.{mod-lt, mod-eq_of_lt, pow-suc}
use lib.Arith.{mod-mul}
use lib.Bits.{bit_xor, bit_and, and_mask}
use lib.Dec.{T, lit<}
use lib.ListN.{get_or}
use lib.Pow.{pow_pos}
use Rattle.field.specs.Poly.{product}
use Rattle.field.specs.Field.{pick, binary, Binary, F16, F256, field_of, bits}
use Rattle.field.proofs.Linear.{all}
use Rattle.field.proofs.Xor.{xor_assoc}
use Rattle.field.specs.Code.Shift.{double, shift_add}
use Rattle.field.proofs.Shift.{same?, shift_add-product, test4, test8}
use Rattle.sharing.proofs.Loops.{taken_more}
use Rattle.row.specs.Code.Products.{term}
use Rattle.row.specs.Code.Streams.{doubled}

-- the code's turn t is the definition's step
pub term_next : (bits r : ℕ) (m : List ℕ) (v h g t : ℕ) → t < bits
    → bit_xor (bit_xor v (bit_and h 1 * get_or m (t * r + g) 0)) (term m r (bits - (t + 1)) ((t + 1) * r + g) (h / 2)) ≡ bit_xor v (term m r (bits - t) (t * r + g) h)
unfolding term
term_next bits r m v h g t l =
    let k : ℕ = bits - (t + 1) in
    let e : suc k ≡ bits - t = omega arith in
    let p : (t + 1) * r + g ≡ t * r + g + r = omega (arith, taken_more (t * r) t r refl) in
    ap (λ (x : ℕ). bit_xor (bit_xor v (bit_and h 1 * get_or m (t * r + g) 0)) (term m r k x (h / 2))) p
    ∙ xor_assoc v (bit_and h 1 * get_or m (t * r + g) 0) (term m r k (t * r + g + r) (h / 2))
    ∙ ap (λ (x : ℕ). bit_xor v (bit_xor (x * get_or m (t * r + g) 0) (term m r k (t * r + g + r) (h / 2)))) (and_mask h 1)
    ∙ ap (λ (x : ℕ). bit_xor v (term m r x (t * r + g) h)) e

-- k turns look at k bits
lowest : (w p k a y : ℕ) → shift_add w p k a y ≡ shift_add w p k a (y % 2 ^ k)
unfolding shift_add
lowest w p zero a y = refl
lowest w p (suc k) a y =
    let e : y % 2 ^ suc k ≡ y / 2 % 2 ^ k * 2 + y % 2 = ap (λ (x : ℕ). y % x) (pow-suc 2 k) ∙ mod-mul y (pow_pos k) (lit< tt) in
    let odd : y % 2 ≡ y % 2 ^ suc k % 2 = omega arith in
    let half : y / 2 % 2 ^ k ≡ y % 2 ^ suc k / 2 = omega arith in
    ap (bit_xor (y % 2 * a)) (lowest w p k (double w p a) (y / 2))
    ∙ ap₂ (λ (x z : ℕ). bit_xor (x * a) (shift_add w p k (double w p a) z)) odd half

module _ (w p : ℕ) (m : List ℕ) (r : ℕ) where
  -- the sum over k rows of m, each of which is the one before it doubled
  term_shift : (k g a y : ℕ) → (0 < k → get_or m g 0 ≡ a) → ((t : ℕ) → t + 1 < k → get_or m (g + (t + 1) * r) 0 ≡ double w p (get_or m (g + t * r) 0))
      → term m r k g y ≡ shift_add w p k a y
  unfolding term shift_add
  term_shift zero g a y h d = refl
  term_shift (suc k) g a y h d =
      let first : g + r ≡ g + (0 + 1) * r = omega arith in
      let same : g + 0 * r ≡ g = omega arith in
      ap₂ (λ (x z : ℕ). bit_xor (y % 2 * x) z) (h (omega arith))
      (term_shift k (g + r) (double w p a) (y / 2)
      (λ l. ap (λ (x : ℕ). get_or m x 0) first ∙ d 0 (omega arith) ∙ ap (λ (x : ℕ). double w p (get_or m x 0)) same ∙ ap (double w p) (h (omega arith)))
      (λ t l.
      let b : g + r + (t + 1) * r ≡ g + (t + 1 + 1) * r = omega (arith, taken_more ((t + 1) * r) (t + 1) r refl) in
      let c : g + (t + 1) * r ≡ g + r + t * r = omega (arith, taken_more (t * r) t r refl) in
      ap (λ (x : ℕ). get_or m x 0) b ∙ d (t + 1) (omega arith) ∙ ap (λ (x : ℕ). double w p (get_or m x 0)) c))

  term-product : T (all w (λ i. all w (same? w p i))) → (g a y : ℕ) → a < 2 ^ w → get_or m g 0 ≡ a
      → ((t : ℕ) → t + 1 < w → get_or m (g + (t + 1) * r) 0 ≡ double w p (get_or m (g + t * r) 0))
      → term m r w g y ≡ (binary w (2 ^ w + p)).mul a y
  term-product test g a y l h d =
      term_shift w g a y (λ k. h) d ∙ lowest w p w a y ∙ shift_add-product w p test l (mod-lt y (pow_pos w))
      ∙ ap (λ (x : ℕ). product w (2 ^ w + p) x (y % 2 ^ w)) (sym (mod-eq_of_lt l))

terms : (b : Bool) (m : List ℕ) (r g a y : ℕ) → a < (pick b F16 F256).q → get_or m g 0 ≡ a
    → ((t : ℕ) → t + 1 < pick b 4 8 → get_or m (g + (t + 1) * r) 0 ≡ doubled (pick b 4 8) (get_or m (g + t * r) 0))
    → term m r (pick b 4 8) g y ≡ (pick b F16 F256).mul a y
unfolding F16 F256 doubled double
terms true m r = term-product 4 3 m r test4
terms false m r = term-product 8 27 m r test8

-- whatever the byte y: no more bits of it are looked at than the field has
pub term-mul : {f : ℕ} → Binary f → (m : List ℕ) (r g a y : ℕ) → a < (field_of f).q → get_or m g 0 ≡ a
    → ((t : ℕ) → t + 1 < bits f → get_or m (g + (t + 1) * r) 0 ≡ doubled (bits f) (get_or m (g + t * r) 0))
    → term m r (bits f) g y ≡ (field_of f).mul a y
term-mul B m r g a y = rw (B.is, B.has) (terms B.sixteen m r g a y)
