-- The two fields of 01, and what makes them fields. The elements are the numbers below q, with 0 and 1 as zero and one.
-- A number at or above q counts as what it leaves modulo q, so that an operation takes any number and gives one below q.
-- Assumes nothing.
use Rattle.std.specs.Prelude.{◌≡◌, Bool, true, false, ℕ, zero, suc, ◌%◌, ◌^◌, ◌<◌, eqb, get_or, List}
use Rattle.std.specs.Int.Bits.{bit_xor, bit_and}
use Rattle.field.specs.Poly.{product}

-- the operations, apart from their laws
pub record Ops : Type 0 where
  pub q : ℕ
  pub add : ℕ → ℕ → ℕ
  pub neg : ℕ → ℕ
  pub mul : ℕ → ℕ → ℕ

abbrev pub sub : Ops → ℕ → ℕ → ℕ
sub F a b = F.add a (F.neg b)

-- one draw of a tape: a byte modulo q
abbrev pub draw : Ops → ℕ → ℕ
draw F byte = byte % F.q

abbrev pub pick : {A : Type 0} → Bool → A → A → A
pick true a b = a
pick false a b = b

-- the number below k whose product with a is 1, and 0 where there is none
unfoldable pub inverse_below : (ℕ → ℕ → ℕ) → ℕ → ℕ → ℕ
inverse_below mul zero a = 0
inverse_below mul (suc k) a = let r = inverse_below mul k a in pick (eqb (mul a k) 1) k r

-- the inverse of a; of 0, which has none, it is 0
unfoldable pub inv : Ops → ℕ → ℕ
inv F a = inverse_below F.mul F.q (a % F.q)

-- the laws of a commutative ring
pub record Ring (F : Ops) : Type 0 where
  pub pos : 0 < F.q
  pub add_lt : (a b : ℕ) → F.add a b < F.q
  pub neg_lt : (a : ℕ) → F.neg a < F.q
  pub mul-lt : (a b : ℕ) → F.mul a b < F.q
  pub add_assoc : (a b c : ℕ) → F.add (F.add a b) c ≡ F.add a (F.add b c)
  pub add_comm : (a b : ℕ) → F.add a b ≡ F.add b a
  pub add-zero : (a : ℕ) → F.add a 0 ≡ a % F.q
  pub add-neg : (a : ℕ) → F.add a (F.neg a) ≡ 0
  pub mul_assoc : (a b c : ℕ) → F.mul (F.mul a b) c ≡ F.mul a (F.mul b c)
  pub mul_comm : (a b : ℕ) → F.mul a b ≡ F.mul b a
  pub mul-add : (a b c : ℕ) → F.mul a (F.add b c) ≡ F.add (F.mul a b) (F.mul a c)

-- and those of a field, whose one is 1. The integers modulo a prime meet them too
pub record Field (F : Ops) : Type 0 where
  pub ring : Ring F
  pub one-lt : 1 < F.q
  pub mul-one : (a : ℕ) → F.mul a 1 ≡ a % F.q
  pub has_inverse : {a : ℕ} → a < F.q → (a ≡ 0 → ⊥) → (b : ℕ) × (b < F.q) × (F.mul a b ≡ 1)

-- polynomials of w coefficients modulo m, of degree w: sum and difference are both exclusive or
abbrev pub binary : ℕ → ℕ → Ops
binary w m =
    record {
      q = 2 ^ w;
      add = λ a b. bit_xor a b % 2 ^ w;
      neg = λ a. a % 2 ^ w;
      mul = λ a b. product w m (a % 2 ^ w) (b % 2 ^ w);
    }

-- F16: modulo x^4 + x + 1
unfoldable pub F16 : Ops
F16 = binary 4 0b1_0011

-- a row of F16's table of products: those of a with each element, in order
pub record RowOf (a : ℕ) (row : List ℕ) : Type 0 where
  pub at : (b : ℕ) → get_or row (b % 16) 0 ≡ F16.mul a b

-- F256: modulo x^8 + x^4 + x^3 + x + 1
unfoldable pub F256 : Ops
F256 = binary 8 0b1_0001_1011

-- the field that a number names. Whoever takes a number from outside refuses all but 16 and 256
unfoldable pub field_of : ℕ → Ops
field_of f = pick (eqb f 16) F16 F256

-- w, the bits of an element
unfoldable pub bits : ℕ → ℕ
bits f = pick (eqb f 16) 4 8

-- f names one of the two binary fields: what holds of exclusive or alone is said under this premise
pub record Binary (f : ℕ) : Type 0 where
  pub sixteen : Bool
  pub is : field_of f ≡ pick sixteen F16 F256
  pub has : bits f ≡ pick sixteen 4 8

-- the same sums, with bitwise and for the product: a ring, whose one is the word of ones
unfoldable pub bitwise : Ops → Ops
bitwise F =
    record { q = F.q; add = F.add; neg = F.neg; mul = λ a b. bit_and a b % F.q }
