-- The inverse of a field: the search finds it, and it is the only one.
-- Assumes nothing.
use mathlib.Core.Path.{◌≡◌, refl, sym, ap, ◌∙◌, subst, subst⁻¹}
use mathlib.Core.Bool.{Bool, true, false}
use mathlib.Core.Logic.{⊎_elim}
use Prim.Native.Nat.{ℕ, zero, suc, ◌<◌, ◌%◌}
use native.Mathlib.Decide.{ℕ_discrete}
use native.Mathlib.Nat.{mod-lt, mod-eq_of_lt, eq-or-lt_of_le, le_of_suc-le-suc, not-suc-le-zero, lt-suc_self, lt_trans}
use lib.Dec.{T, eqb}
use borrow.Author.Tests.{eq-eqb, eqb-true}
use Rattle.field.specs.Field.{Ops, Field, inv, pick, inverse_below}

-- below k there is a number whose product with a is 1, so the search finds one
found : (mul : ℕ → ℕ → ℕ) (k a b : ℕ) → b < k → mul a b ≡ 1 → (mul a (inverse_below mul k a) ≡ 1) × (inverse_below mul k a < k)
unfolding inverse_below
found mul zero a b h e = absurd (not-suc-le-zero h)
found mul (suc k) a b h e = go (eqb (mul a k) 1) refl (found mul k a b)
  where
    go : (t : Bool) → eqb (mul a k) 1 ≡ t
        → (b < k → mul a b ≡ 1 → (mul a (inverse_below mul k a) ≡ 1) × (inverse_below mul k a < k))
        → (mul a (pick t k (inverse_below mul k a)) ≡ 1) × (pick t k (inverse_below mul k a) < suc k)
    go true u ih = (eqb-true _ _ u, lt-suc_self k)
    go false u ih =
        ⊎_elim (λ l. absurd (subst (λ (t : Bool). T t) (sym (eq-eqb (mul a k) 1 (ap (mul a) (sym l) ∙ e)) ∙ u) tt))
        (λ l. ((ih l e).0, lt_trans (ih l e).1 (lt-suc_self k)))
        (eq-or-lt_of_le (le_of_suc-le-suc h))

-- no number gives 1 with a, so the search ends at 0
none : (mul : ℕ → ℕ → ℕ) (k a : ℕ) → ((b : ℕ) → b < k → mul a b ≡ 0) → inverse_below mul k a ≡ 0
unfolding inverse_below
none mul zero a h = refl
none mul (suc k) a h =
    let e : eqb (mul a k) 1 ≡ false = ap (λ (x : ℕ). eqb x 1) (h k (lt-suc_self k)) in
    rw e (none mul k a (λ b l. h b (lt_trans l (lt-suc_self k))))

module _ (F : Ops) (L : Field F) where
  left_lt : (a : ℕ) → a % F.q < F.q
  left_lt a = mod-lt a L.ring.pos

  -- a number counts as what it leaves
  pub mul_left : (a b : ℕ) → F.mul (a % F.q) b ≡ F.mul a b
  mul_left a b =
      ap (λ (x : ℕ). F.mul x b) (sym (L.mul-one a)) ∙ L.ring.mul_assoc a 1 b
      ∙ ap (F.mul a) (L.ring.mul_comm 1 b) ∙ sym (L.ring.mul_assoc a b 1) ∙ L.mul-one (F.mul a b) ∙ mod-eq_of_lt (L.ring.mul-lt a b)

  sought : (a : ℕ) → (a % F.q ≡ 0 → ⊥) → (F.mul (a % F.q) (inv F a) ≡ 1) × (inv F a < F.q)
  unfolding inv
  sought a n =
      let w : (b : ℕ) × (b < F.q) × (F.mul (a % F.q) b ≡ 1) = L.has_inverse (left_lt a) n in
      found F.mul F.q (a % F.q) w.0 w.1 w.2

  pub mul-inv : (a : ℕ) → (a % F.q ≡ 0 → ⊥) → F.mul a (inv F a) ≡ 1
  mul-inv a n = sym (mul_left a (inv F a)) ∙ (sought a n).0

  -- whatever gives 1 with a is the inverse of a
  pub inv_unique : (a : ℕ) {b : ℕ} → (a % F.q ≡ 0 → ⊥) → b < F.q → F.mul a b ≡ 1 → b ≡ inv F a
  inv_unique a {b} n l e =
      sym (mod-eq_of_lt l) ∙ sym (L.mul-one b) ∙ ap (F.mul b) (sym (mul-inv a n)) ∙ sym (L.ring.mul_assoc b a (inv F a))
      ∙ ap (λ (x : ℕ). F.mul x (inv F a)) (L.ring.mul_comm b a ∙ e) ∙ L.ring.mul_comm 1 (inv F a) ∙ L.mul-one (inv F a)
      ∙ mod-eq_of_lt (sought a n).1

  -- the product with 0 is 0
  pub zero-mul : (b : ℕ) → F.mul 0 b ≡ 0
  zero-mul b =
      let R = L.ring in
      let x = F.mul b 0 in
      let twice : F.add x x ≡ x = sym (R.mul-add b 0 0) ∙ ap (F.mul b) (R.add-zero 0 ∙ mod-eq_of_lt R.pos) in
      R.mul_comm 0 b ∙ sym (mod-eq_of_lt (R.mul-lt b 0)) ∙ sym (R.add-zero x) ∙ ap (F.add x) (sym (R.add-neg x))
      ∙ sym (R.add_assoc x x (F.neg x)) ∙ ap (λ (y : ℕ). F.add y (F.neg x)) twice ∙ R.add-neg x

  pub inv-zero : (a : ℕ) → a % F.q ≡ 0 → inv F a ≡ 0
  unfolding inv
  inv-zero a e = ap (inverse_below F.mul F.q) e ∙ none F.mul F.q 0 (λ k h. zero-mul k)

  pub inv-lt : (a : ℕ) → inv F a < F.q
  inv-lt a = elim (ℕ_discrete (a % F.q) 0) [
    | yes e ↦ subst⁻¹ (λ (x : ℕ). x < F.q) (inv-zero a e) L.ring.pos
    | no n ↦ (sought a n).1
  ]
