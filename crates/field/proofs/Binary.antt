-- The laws of a field of polynomials modulo m: from the tests of m at the powers of x, and the test that each element but 0 has an inverse.
-- Assumes nothing.
use mathlib.Core.Path.{◌≡◌, sym, ap, ap₂, ◌∙◌}
use Prim.Native.Nat.{ℕ, ◌%◌, ◌^◌, ◌<◌}
use native.Mathlib.Nat.{mod-lt, mod-eq_of_lt, mod-mod}
use lib.Pow.{pow_pos, pow-lt}
use lib.Bits.{bit_xor, xor_lt, xor_comm, xor_zero_r, xor_self, xor_mod, bit_and, and_mod, and_comm}
use Rattle.field.specs.Poly.{product}
use Rattle.field.specs.Field.{Ring, Field, binary, bitwise}
use Rattle.field.proofs.Xor.{xor_assoc, and_assoc, and_xor}
use Rattle.field.proofs.Product.{Modulus, product_bilinear, product_lt, product_one, product_comm, product_assoc}

-- sums modulo 2^w
module _ (w : ℕ) where
  bound : (a : ℕ) → a % 2 ^ w < 2 ^ w
  bound a = mod-lt a (pow_pos w)

  sum_assoc : (a b c : ℕ) → bit_xor (bit_xor a b % 2 ^ w) c % 2 ^ w ≡ bit_xor a (bit_xor b c % 2 ^ w) % 2 ^ w
  sum_assoc a b c =
      xor_mod (bit_xor a b % 2 ^ w) c w ∙ ap (λ (x : ℕ). bit_xor x (c % 2 ^ w)) (mod-mod (bit_xor a b) (2 ^ w)) ∙ sym (xor_mod (bit_xor a b) c w)
      ∙ ap (λ (x : ℕ). x % 2 ^ w) (xor_assoc a b c)
      ∙ xor_mod a (bit_xor b c) w ∙ ap (bit_xor (a % 2 ^ w)) (sym (mod-mod (bit_xor b c) (2 ^ w))) ∙ sym (xor_mod a (bit_xor b c % 2 ^ w) w)

  sum-neg : (a : ℕ) → bit_xor a (a % 2 ^ w) % 2 ^ w ≡ 0
  sum-neg a =
      xor_mod a (a % 2 ^ w) w ∙ ap (bit_xor (a % 2 ^ w)) (mod-mod a (2 ^ w)) ∙ xor_self (a % 2 ^ w)

module _ (w m : ℕ) (ok : Modulus w m) where
  closed : (a b : ℕ) → product w m (a % 2 ^ w) (b % 2 ^ w) < 2 ^ w
  closed a b = product_lt w m ok (bound w a) (bound w b)

  pub binary_ring : Ring (binary w m)
  binary_ring =
      record {
        pos = pow_pos w;
        add_lt = λ a b. bound w (bit_xor a b);
        neg_lt = bound w;
        mul-lt = closed;
        add_assoc = sum_assoc w;
        add_comm = λ a b. ap (λ (x : ℕ). x % 2 ^ w) (xor_comm a b);
        add-zero = λ a. ap (λ (x : ℕ). x % 2 ^ w) (xor_zero_r a);
        add-neg = sum-neg w;
        mul_assoc = λ a b c. ap (λ (x : ℕ). product w m x (c % 2 ^ w)) (mod-eq_of_lt (closed a b))
            ∙ product_assoc w m ok (bound w a) (bound w b) (bound w c)
            ∙ sym (ap (product w m (a % 2 ^ w)) (mod-eq_of_lt (closed b c)));
        mul_comm = λ a b. product_comm w m ok (bound w a) (bound w b);
        mul-add = λ a b c. ap (product w m (a % 2 ^ w)) (mod-mod (bit_xor b c) (2 ^ w) ∙ xor_mod b c w)
            ∙ ((product_bilinear w m).second (a % 2 ^ w)).sum (b % 2 ^ w) (c % 2 ^ w)
            ∙ sym (mod-eq_of_lt (xor_lt w _ _ (closed a b) (closed a c)));
      }

  pub binary_field : 0 < w → ((a : ℕ) → a < 2 ^ w → (a ≡ 0 → ⊥) → (b : ℕ) × (b < 2 ^ w) × ((binary w m).mul a b ≡ 1)) → Field (binary w m)
  binary_field pos inverses =
      record {
        ring = binary_ring;
        one-lt = pow-lt pos;
        mul-one = λ a. product_comm w m ok (bound w a) (bound w 1)
            ∙ ap (λ (x : ℕ). product w m x (a % 2 ^ w)) (mod-eq_of_lt (pow-lt pos)) ∙ product_one w m ok (bound w a);
        has_inverse = λ {a} h n. inverses a h n;
      }

pub bitwise_ring : (w m : ℕ) → Ring (bitwise (binary w m))
unfolding bitwise
bitwise_ring w m =
    record {
      pos = pow_pos w;
      add_lt = λ a b. bound w (bit_xor a b);
      neg_lt = bound w;
      mul-lt = λ a b. bound w (bit_and a b);
      add_assoc = sum_assoc w;
      add_comm = λ a b. ap (λ (x : ℕ). x % 2 ^ w) (xor_comm a b);
      add-zero = λ a. ap (λ (x : ℕ). x % 2 ^ w) (xor_zero_r a);
      add-neg = sum-neg w;
      mul_assoc = λ a b c. and_mod (bit_and a b % 2 ^ w) c w ∙ ap (λ (x : ℕ). bit_and x (c % 2 ^ w)) (mod-mod (bit_and a b) (2 ^ w)) ∙ sym (and_mod (bit_and a b) c w)
          ∙ ap (λ (x : ℕ). x % 2 ^ w) (and_assoc a b c)
          ∙ and_mod a (bit_and b c) w ∙ ap (bit_and (a % 2 ^ w)) (sym (mod-mod (bit_and b c) (2 ^ w))) ∙ sym (and_mod a (bit_and b c % 2 ^ w) w);
      mul_comm = λ a b. ap (λ (x : ℕ). x % 2 ^ w) (and_comm a b);
      mul-add = λ a b c. and_mod a (bit_xor b c % 2 ^ w) w ∙ ap (bit_and (a % 2 ^ w)) (mod-mod (bit_xor b c) (2 ^ w)) ∙ sym (and_mod a (bit_xor b c) w)
          ∙ ap (λ (x : ℕ). x % 2 ^ w) (and_xor a b c)
          ∙ xor_mod (bit_and a b) (bit_and a c) w
          ∙ ap₂ bit_xor (sym (mod-mod (bit_and a b) (2 ^ w))) (sym (mod-mod (bit_and a c) (2 ^ w)))
          ∙ sym (xor_mod (bit_and a b % 2 ^ w) (bit_and a c % 2 ^ w) w);
    }
