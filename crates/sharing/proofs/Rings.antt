-- Small facts of any ring.
-- Assumes nothing.
use mathlib.Core.Path.{◌≡◌, sym, ap, ap₂, ◌∙◌}
use Prim.Native.Nat.{ℕ, ◌%◌, ◌<◌}
use native.Mathlib.Nat.{mod-eq_of_lt}
use Rattle.field.specs.Field.{Ops, Ring, sub}

module _ (F : Ops) (R : Ring F) where
  pub zero-add : (a : ℕ) → F.add 0 a ≡ a % F.q
  zero-add a = R.add_comm 0 a ∙ R.add-zero a

  pub zero-add-lt : {a : ℕ} → a < F.q → F.add 0 a ≡ a
  zero-add-lt {a} h = zero-add a ∙ mod-eq_of_lt h

  pub add-zero-lt : {a : ℕ} → a < F.q → F.add a 0 ≡ a
  add-zero-lt {a} h = R.add-zero a ∙ mod-eq_of_lt h

  -- a number counts as what it leaves modulo q
  pub add_right : (a b : ℕ) → F.add a (b % F.q) ≡ F.add a b
  add_right a b =
      ap (F.add a) (sym (R.add-zero b)) ∙ sym (R.add_assoc a b 0) ∙ add-zero-lt (R.add_lt a b)

  pub add_left : (a b : ℕ) → F.add (a % F.q) b ≡ F.add a b
  add_left a b = R.add_comm (a % F.q) b ∙ add_right b a ∙ R.add_comm b a

  pub left_comm : (a b c : ℕ) → F.add a (F.add b c) ≡ F.add b (F.add a c)
  left_comm a b c =
      sym (R.add_assoc a b c) ∙ ap (λ (x : ℕ). F.add x c) (R.add_comm a b) ∙ R.add_assoc b a c

  pub swap4 : (a b c d : ℕ) → F.add (F.add a b) (F.add c d) ≡ F.add (F.add a c) (F.add b d)
  swap4 a b c d = R.add_assoc a b (F.add c d) ∙ ap (F.add a) (left_comm b c d) ∙ sym (R.add_assoc a c (F.add b d))

  -- what was added and taken again
  pub neg-add : (a : ℕ) {b : ℕ} → b < F.q → F.add (F.neg a) (F.add a b) ≡ b
  neg-add a {b} h =
      sym (R.add_assoc (F.neg a) a b) ∙ ap (λ (x : ℕ). F.add x b) (R.add_comm (F.neg a) a ∙ R.add-neg a) ∙ zero-add-lt h

  pub sub_back : (a b : ℕ) → F.add (sub F a b) b ≡ a % F.q
  sub_back a b = R.add_assoc a (F.neg b) b ∙ ap (F.add a) (R.add_comm (F.neg b) b ∙ R.add-neg b) ∙ R.add-zero a

  pub add_cancel : (a : ℕ) {b c : ℕ} → b < F.q → c < F.q → F.add a b ≡ F.add a c → b ≡ c
  add_cancel a hb hc e = sym (neg-add a hb) ∙ ap (F.add (F.neg a)) e ∙ neg-add a hc

  pub neg-mod : (a : ℕ) → F.neg (a % F.q) ≡ F.neg a
  neg-mod a =
      add_cancel a (R.neg_lt (a % F.q)) (R.neg_lt a)
      (sym (add_left a (F.neg (a % F.q))) ∙ R.add-neg (a % F.q) ∙ sym (R.add-neg a))

  -- the opposite of a sum
  pub neg_sum : (a b : ℕ) → F.neg (F.add a b) ≡ F.add (F.neg a) (F.neg b)
  neg_sum a b =
      add_cancel (F.add a b) (R.neg_lt (F.add a b)) (R.add_lt (F.neg a) (F.neg b))
      (R.add-neg (F.add a b)
      ∙ sym (swap4 a b (F.neg a) (F.neg b) ∙ ap₂ F.add (R.add-neg a) (R.add-neg b) ∙ zero-add-lt R.pos))

  pub neg-zero : F.neg 0 ≡ 0
  neg-zero = sym (zero-add-lt (R.neg_lt 0)) ∙ R.add-neg 0

  pub mul-zero : (a : ℕ) → F.mul a 0 ≡ 0
  mul-zero a =
      add_cancel (F.mul a 0) (R.mul-lt a 0) R.pos
      (sym (R.mul-add a 0 0) ∙ ap (F.mul a) (add-zero-lt R.pos) ∙ sym (add-zero-lt (R.mul-lt a 0)))

  pub add-mul : (a b c : ℕ) → F.mul (F.add a b) c ≡ F.add (F.mul a c) (F.mul b c)
  add-mul a b c =
      R.mul_comm (F.add a b) c ∙ R.mul-add c a b ∙ ap₂ F.add (R.mul_comm c a) (R.mul_comm c b)

  pub mul_left_comm : (a b c : ℕ) → F.mul a (F.mul b c) ≡ F.mul b (F.mul a c)
  mul_left_comm a b c =
      sym (R.mul_assoc a b c) ∙ ap (λ (x : ℕ). F.mul x c) (R.mul_comm a b) ∙ R.mul_assoc b a c
