-- The fields of the paper have the laws of a field.
-- Assumes nothing.
use mathlib.Core.Path.{◌≡◌, refl, sym, ap, ap₂, ◌∙◌}
use mathlib.Core.Bool.{Bool, true, false}
use Prim.Native.Nat.{ℕ, zero, suc, ◌%◌, ◌^◌, ◌<◌}
use mathlib.Core.List.{List, [], ◌∷◌}
use native.Mathlib.Decide.{ℕ_discrete}
use native.Mathlib.Nat.{mod-lt, mod-eq_of_lt, mod-mod}
use lib.Bits.{bit_xor, xor_mod}
use lib.ListN.{get_or}
use lib.Dec.{T, eqb, eqb→eq, ltb, ltb→lt, lit<}
use Rattle.field.specs.Poly.{times, left, product}
use Rattle.field.specs.Field.{Ops, Ring, Field, pick, sub, inv, binary, bitwise, Binary, field_of, bits, F16, F256}
use Rattle.field.specs.Code.Power.{chain, linked, along, power254}
use Rattle.field.proofs.Linear.{both, both_left, both_right, all, all-at}
use Rattle.field.proofs.Inverses.{mul_left, inv_unique, inv-zero}
use Rattle.field.proofs.Product.{Modulus, closed?, one?, comm?, assoc?}
use Rattle.field.proofs.Binary.{binary_field, bitwise_ring}

ok4 : Modulus 4 19
unfolding closed? one? comm? assoc? product times left
ok4 = record { closed = tt; one = tt; comm = tt; assoc = tt }

ok8 : Modulus 8 283
unfolding closed? one? comm? assoc? product times left
ok8 = record { closed = tt; one = tt; comm = tt; assoc = tt }

-- 0 is passed over
abbrev or-zero : ℕ → Bool → Bool
or-zero zero b = true
or-zero (suc n) b = b

not-zero : (a : ℕ) (b : Bool) → (a ≡ 0 → ⊥) → T (or-zero a b) → T b
not-zero zero b n t = absurd (n refl)
not-zero (suc a) b n t = t

-- g a is an inverse of a, for each a below q but 0
unfoldable pub inverts : Ops → (ℕ → ℕ) → ℕ → Bool
inverts F g a = or-zero a (both (ltb (g a) F.q) (eqb (F.mul a (g a)) 1))

module _ (F : Ops) (g : ℕ → ℕ) (t : T (all F.q (inverts F g))) (a : ℕ) (h : a < F.q) (n : a ≡ 0 → ⊥) where
  tested : T (both (ltb (g a) F.q) (eqb (F.mul a (g a)) 1))
  unfolding inverts
  tested = not-zero a _ n (all-at F.q (inverts F g) t a h)

  pub inverts-lt : g a < F.q
  inverts-lt = ltb→lt _ _ (both_left (ltb (g a) F.q) (eqb (F.mul a (g a)) 1) tested)

  pub inverts-mul : F.mul a (g a) ≡ 1
  inverts-mul = eqb→eq _ _ (both_right (ltb (g a) F.q) (eqb (F.mul a (g a)) 1) tested)

unfoldable pub inverses16 : List ℕ
inverses16 =
    0 ∷ 1 ∷ 9 ∷ 14 ∷ 13 ∷ 11 ∷ 7 ∷ 6 ∷ 15 ∷ 2 ∷ 12 ∷ 5 ∷ 10 ∷ 4 ∷ 3 ∷ 8 ∷ []

pub rule16 : T (all 16 (inverts F16 (λ a. get_or inverses16 a 0)))
unfolding inverts inverses16 F16 product times left
rule16 = tt

pub rule256 : T (all 256 (inverts F256 power254))
unfolding inverts power254 along linked chain F256 product times left
rule256 = tt

pub field16 : Field F16
unfolding F16
field16 =
    binary_field 4 19 ok4 (lit< tt)
    (λ a h n. (get_or inverses16 a 0, inverts-lt F16 (λ a. get_or inverses16 a 0) rule16 a h n, inverts-mul F16 (λ a. get_or inverses16 a 0) rule16 a h n))

pub field256 : Field F256
unfolding F256
field256 =
    binary_field 8 283 ok8 (lit< tt)
    (λ a h n. (power254 a, inverts-lt F256 power254 rule256 a h n, inverts-mul F256 power254 rule256 a h n))

-- what passes the test, with 0 for 0, is the inverse
module _ (F : Ops) (L : Field F) (g : ℕ → ℕ) (t : T (all F.q (inverts F g))) (z : g 0 ≡ 0) where
  pub inverts-inv : (a : ℕ) → g (a % F.q) ≡ inv F a
  inverts-inv a = elim (ℕ_discrete (a % F.q) 0) [
    | yes e ↦ ap g e ∙ z ∙ sym (inv-zero F L a e)
    | no n ↦
        let l : a % F.q < F.q = mod-lt a L.ring.pos in
        inv_unique F L a n (inverts-lt F g t (a % F.q) l n) (sym (mul_left F L a (g (a % F.q))) ∙ inverts-mul F g t (a % F.q) l n)
  ]

zero254 : power254 0 ≡ 0
unfolding power254 along linked chain F256 product times left
zero254 = refl

-- the power 254 of a byte is its inverse
pub inverse254 : {a : ℕ} → a < 256 → power254 a ≡ inv F256 a
unfolding F256
inverse254 {a} h = ap power254 (sym (mod-eq_of_lt h)) ∙ inverts-inv F256 field256 power254 rule256 zero254 a

fields : (t : Bool) → Field (pick t F16 F256)
fields true = field16
fields false = field256

-- whatever number is given, the field that it names is a field
pub field_of_lem : (f : ℕ) → Field (field_of f)
unfolding field_of
field_of_lem f = fields (eqb f 16)

binaries : (t : Bool) → (m : ℕ) × (pick t F16 F256 ≡ binary (pick t 4 8) m)
unfolding F16 F256
binaries true = (19, refl)
binaries false = (283, refl)

pub binary_of : (f : ℕ) → Binary f
unfolding field_of bits
binary_of f = record { sixteen = eqb f 16; is = refl; has = refl }

-- sum and difference are both exclusive or
sub-binary : (w m a b : ℕ) → sub (binary w m) a b ≡ (binary w m).add a b
sub-binary w m a b =
    xor_mod a (b % 2 ^ w) w ∙ ap (bit_xor (a % 2 ^ w)) (mod-mod b (2 ^ w)) ∙ sym (xor_mod a b w)

module _ {f : ℕ} (B : Binary f) where
  abbrev width : ℕ
  width = pick B.sixteen 4 8

  abbrev modulus : ℕ
  modulus = (binaries B.sixteen).0

  words : field_of f ≡ binary width modulus
  words = B.is ∙ (binaries B.sixteen).1

  pub sub-add : (a b : ℕ) → sub (field_of f) a b ≡ (field_of f).add a b
  sub-add a b = rw words (sub-binary width modulus a b)

  pub add-xor : (a b : ℕ) → (field_of f).add a b ≡ bit_xor a b % (field_of f).q
  add-xor a b = rw words refl

  -- exclusive or respects what its sides leave modulo q
  pub xor_same : (a b c d : ℕ) → a % (field_of f).q ≡ c % (field_of f).q → b % (field_of f).q ≡ d % (field_of f).q
      → bit_xor a b % (field_of f).q ≡ bit_xor c d % (field_of f).q
  xor_same a b c d = rw words (λ x y. xor_mod a b width ∙ ap₂ bit_xor x y ∙ sym (xor_mod c d width))

  pub bitwise_of : Ring (bitwise (field_of f))
  bitwise_of = rw words (bitwise_ring width modulus)
