-- What follows from a field's laws, by names that `simp` takes, and the laws of a combination.
-- Assumes nothing.
use mathlib.Core.Path.{◌≡◌, refl, sym, ◌∙◌}
use Prim.Native.Nat.{ℕ, zero, suc, ◌%◌, ◌<◌, ◌≤◌}
use native.Mathlib.Nat.{mod-eq_of_lt, zero-mod, mod-mod}
use native.Mathlib.Omega.{arith}
use Rattle.field.specs.Field.{Ops, Field}
use Rattle.field.proofs.Inverses as I
use Rattle.sharing.proofs.Rings as R
use Rattle.algebra.specs.Linear.{combination}

module _ (F : Ops) (L : Field F) where
  open F use {q, add as ◌⊕◌, mul as ◌⊙◌, neg}

  infixl 60 ◌⊕◌
  infixl 70 ◌⊙◌
  pub add_assoc : (a b c : ℕ) → a ⊕ b ⊕ c ≡ a ⊕ (b ⊕ c)
  add_assoc = L.ring.add_assoc

  pub add_comm : (a b : ℕ) → a ⊕ b ≡ b ⊕ a
  add_comm = L.ring.add_comm

  pub add_left_comm : (a b c : ℕ) → a ⊕ (b ⊕ c) ≡ b ⊕ (a ⊕ c)
  add_left_comm = R.left_comm F L.ring

  pub add-zero : (a : ℕ) → a ⊕ 0 ≡ a % q
  add-zero = L.ring.add-zero

  pub zero-add : (a : ℕ) → 0 ⊕ a ≡ a % q
  zero-add = R.zero-add F L.ring

  pub add-neg : (a : ℕ) → a ⊕ neg a ≡ 0
  add-neg = L.ring.add-neg

  pub mul_assoc : (a b c : ℕ) → a ⊙ b ⊙ c ≡ a ⊙ (b ⊙ c)
  mul_assoc = L.ring.mul_assoc

  pub mul_comm : (a b : ℕ) → a ⊙ b ≡ b ⊙ a
  mul_comm = L.ring.mul_comm

  pub mul_left_comm : (a b c : ℕ) → a ⊙ (b ⊙ c) ≡ b ⊙ (a ⊙ c)
  mul_left_comm = R.mul_left_comm F L.ring

  pub mul-one : (a : ℕ) → a ⊙ 1 ≡ a % q
  mul-one = L.mul-one

  pub one-mul : (a : ℕ) → 1 ⊙ a ≡ a % q
  one-mul a = mul_comm 1 a ∙ mul-one a

  pub mul-zero : (a : ℕ) → a ⊙ 0 ≡ 0
  mul-zero = R.mul-zero F L.ring

  pub zero-mul : (a : ℕ) → 0 ⊙ a ≡ 0
  zero-mul = I.zero-mul F L

  pub mul-add : (a b c : ℕ) → a ⊙ (b ⊕ c) ≡ a ⊙ b ⊕ a ⊙ c
  mul-add = L.ring.mul-add

  pub add-mul : (a b c : ℕ) → (a ⊕ b) ⊙ c ≡ a ⊙ c ⊕ b ⊙ c
  add-mul = R.add-mul F L.ring

  pub add_left : (a b : ℕ) → a % q ⊕ b ≡ a ⊕ b
  add_left = R.add_left F L.ring

  pub add_right : (a b : ℕ) → a ⊕ b % q ≡ a ⊕ b
  add_right = R.add_right F L.ring

  pub mul_left : (a b : ℕ) → (a % q) ⊙ b ≡ a ⊙ b
  mul_left = I.mul_left F L

  pub mul_right : (a b : ℕ) → a ⊙ (b % q) ≡ a ⊙ b
  mul_right a b = mul_comm a (b % q) ∙ mul_left b a ∙ mul_comm b a

  -- sums and products in a normal form, where a number counts as what it leaves modulo q
  pub ruleset ring = (mul-add, add-mul, mul_assoc, add_assoc, add_comm, add_left_comm, mul_comm, mul_left_comm, add-zero, zero-add, mul-zero, zero-mul, mul-one, one-mul, add_left, add_right, mul_left, mul_right, zero-mod, mod-mod)

  pub neg-mul : (a b : ℕ) → neg a ⊙ b ≡ neg (a ⊙ b)
  neg-mul a b =
      R.add_cancel F L.ring (a ⊙ b) (L.ring.mul-lt (neg a) b) (L.ring.neg_lt (a ⊙ b))
      (sym (add-mul a (neg a) b) ∙ rw (add-neg a) (zero-mul b) ∙ sym (add-neg (a ⊙ b)))

  pub mul-neg : (a b : ℕ) → a ⊙ neg b ≡ neg (a ⊙ b)
  mul-neg a b = rw (mul_comm a (neg b), mul_comm a b, neg-mul)

  -- what was taken away is added again
  pub sub_back : (a b : ℕ) → a ⊕ neg b ⊕ b ≡ a % q
  sub_back = R.sub_back F L.ring

  pub add-sub : (a b : ℕ) → a ⊕ b ⊕ neg b ≡ a % q
  add-sub a b = rw (add_assoc, add-neg) (add-zero a)

  pub cancel_right : {a b : ℕ} (c : ℕ) → a ⊕ c ≡ b ⊕ c → a % q ≡ b % q
  cancel_right {a} {b} c e = sym (add-sub a c) ∙ rw e (add-sub b c)

  -- ---- combinations

  pub combination-zero : (f v : ℕ → ℕ) → combination F f v zero ≡ 0
  unfolding combination
  combination-zero f v = refl

  pub combination-suc : (n : ℕ) (f v : ℕ → ℕ) → combination F f v (suc n) ≡ combination F f v n ⊕ f (suc n) ⊙ v (suc n)
  unfolding combination
  combination-suc n f v = refl

  pub combination-lt : (n : ℕ) (f v : ℕ → ℕ) → combination F f v n < q
  combination-lt zero f v = rw (combination-zero f v) L.ring.pos
  combination-lt (suc n) f v = rw (combination-suc n f v) (L.ring.add_lt _ _)

  pub combination_lin : (n a b : ℕ) (f g h v : ℕ → ℕ) → ((c : ℕ) → 1 ≤ c → c ≤ n → h c ≡ a ⊙ f c ⊕ b ⊙ g c)
      → combination F h v n ≡ a ⊙ combination F f v n ⊕ b ⊙ combination F g v n
  combination_lin zero a b f g h v e = simp (combination-zero, ring)
  combination_lin (suc n) a b f g h v e =
      simp (combination-suc, combination_lin n a b f g h v (λ c k l. e c k (omega arith)), e (suc n) (omega arith) (omega arith), ring)

  pub combination_ext : (n : ℕ) (f g v w : ℕ → ℕ) → ((c : ℕ) → 1 ≤ c → c ≤ n → f c ≡ g c) → ((c : ℕ) → 1 ≤ c → c ≤ n → v c ≡ w c)
      → combination F f v n ≡ combination F g w n
  combination_ext zero f g v w e d = simp combination-zero
  combination_ext (suc n) f g v w e d =
      simp (
        combination-suc,
        combination_ext n f g v w (λ c k l. e c k (omega arith)) (λ c k l. d c k (omega arith)),
        e (suc n) (omega arith) (omega arith),
        d (suc n) (omega arith) (omega arith),
      )

  pub combination_comm : (n : ℕ) (f v : ℕ → ℕ) → combination F f v n ≡ combination F v f n
  combination_comm zero f v = simp combination-zero
  combination_comm (suc n) f v = simp (combination-suc, combination_comm n f v, mul_comm)

  pub combination-zeros : (n : ℕ) (f v : ℕ → ℕ) → ((c : ℕ) → 1 ≤ c → c ≤ n → f c ≡ 0) → combination F f v n ≡ 0
  combination-zeros zero f v e = combination-zero f v
  combination-zeros (suc n) f v e =
      rw (combination-suc n f v, combination-zeros n f v (λ c k l. e c k (omega arith)), e (suc n) (omega arith) (omega arith))
      (simp ring)
