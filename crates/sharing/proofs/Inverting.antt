-- Inversion: blinding multiplies the value by the nonzero draws, and the product of the factors is the inverse of the value.
-- Assumes nothing.
use mathlib.Core.Path.{◌≡◌, refl, sym, ap, ◌∙◌}
use Prim.Native.Nat.{ℕ, zero, suc, ◌-◌, ◌*◌, ◌%◌, ◌<◌, ◌≤◌}
use mathlib.Core.List.{List, [], ◌∷◌, ◌++◌}
use native.Mathlib.Omega.{arith}
use native.Mathlib.Decide.{ℕ_discrete}
use native.Mathlib.Nat.{mod-lt, mod-eq_of_lt}
use lib.ListN.{length, get_or, drop, get_or-append}
use lib.Seq.{get_or_at}
use Rattle.field.specs.Field.{Ops, Ring, Field, inv}
use Rattle.field.proofs.Inverses.{mul-inv, inv_unique, inv-zero, zero-mul}
use Rattle.sharing.specs.Run.{tab}
use Rattle.sharing.specs.Rules.{sum, draw_at, scaled, blind_turn, blinded, blinded_value, factors, four_of}
use Rattle.sharing.specs.Lists.{product_all}
use Rattle.sharing.proofs.Rings.{mul-zero, mul_left_comm}
use Rattle.sharing.proofs.Pairs.{tab-length, tab-at, run_holds}
use Rattle.sharing.proofs.Sums.{sum_lt, sum-refresh, sum-scaled, opening-value}

pub four_of-at : (fs : List ℕ) (k : ℕ) → k < 4 → get_or (four_of fs) k 0 ≡ get_or fs k 0
unfolding four_of
four_of-at fs k h = tab-at 4 (λ i. get_or fs i 0) k h

-- the product of the first k draws of the nonzero tape
abbrev pub blinds : Ops → List ℕ → ℕ → ℕ
blinds F nz k = product_all F (tab k (draw_at F nz))

module _ (F : Ops) (L : Field F) where
  R : Ring F
  R = L.ring

  one-mul : {a : ℕ} → a < F.q → F.mul 1 a ≡ a
  one-mul {a} h = R.mul_comm 1 a ∙ L.mul-one a ∙ mod-eq_of_lt h

  -- a product of nonzero elements is not 0
  pub mul-nonzero : {a b : ℕ} → a < F.q → b < F.q → (a ≡ 0 → ⊥) → (b ≡ 0 → ⊥) → F.mul a b ≡ 0 → ⊥
  mul-nonzero {a} {b} ha hb na nb e =
      na
      (sym (mod-eq_of_lt ha) ∙ sym (L.mul-one a) ∙ ap (F.mul a) (sym (mul-inv F L b (λ z. nb (sym (mod-eq_of_lt hb) ∙ z))))
      ∙ sym (R.mul_assoc a b (inv F b))
      ∙ ap (λ (x : ℕ). F.mul x (inv F b)) e
      ∙ R.mul_comm 0 (inv F b)
      ∙ mul-zero F R (inv F b))

  -- ---- the product of a list

  pub product_all-lt : (fs : List ℕ) → product_all F fs < F.q
  unfolding product_all
  product_all-lt [] = L.one-lt
  product_all-lt (x ∷ fs) = R.mul-lt x (product_all F fs)

  pub product_all_snoc : (fs : List ℕ) (x : ℕ) → product_all F (fs ++ (x ∷ [])) ≡ F.mul x (product_all F fs)
  unfolding product_all
  product_all_snoc [] x = refl
  product_all_snoc (y ∷ fs) x =
      ap (F.mul y) (product_all_snoc fs x) ∙ mul_left_comm F R y x (product_all F fs)

  product_all-last : (k : ℕ) (g : ℕ → ℕ) → product_all F (tab (suc k) g) ≡ F.mul (g k) (product_all F (tab k g))
  unfolding product_all
  product_all-last zero g = refl
  product_all-last (suc k) g =
      ap (F.mul (g 0)) (product_all-last k (λ i. g (suc i))) ∙ mul_left_comm F R (g 0) (g (suc k)) _

  -- ---- blinding

  sum-blind_turn : (nz ds : List ℕ) (k : ℕ) (s : List ℕ) → sum F (blind_turn F nz ds k s) ≡ F.mul (draw_at F nz k) (sum F s)
  unfolding blind_turn
  sum-blind_turn nz ds k s =
      sum-refresh F R (drop (k * (length s - 1)) ds) (scaled F (draw_at F nz k) s) ∙ sum-scaled F R (draw_at F nz k) s

  pub sum-blinded : (nz ds s : List ℕ) → sum F (blinded F nz ds s) ≡ F.mul (blinds F nz (length s - 1)) (sum F s)
  unfolding blinded product_all
  sum-blinded nz ds s =
      run_holds (λ (k : ℕ) (t : List ℕ). sum F t ≡ F.mul (blinds F nz k) (sum F s)) (blind_turn F nz ds) (length s - 1)
      (λ k l t e.
      sum-blind_turn nz ds k t ∙ ap (F.mul (draw_at F nz k)) e ∙ sym (R.mul_assoc (draw_at F nz k) (blinds F nz k) (sum F s))
      ∙ ap (λ (x : ℕ). F.mul x (sum F s)) (sym (product_all-last k (draw_at F nz))))
      s
      (sym (one-mul (sum_lt F R s)))

  pub blinded_value_is : (nz ds s : List ℕ) → blinded_value F nz ds s ≡ F.mul (blinds F nz (length s - 1)) (sum F s)
  unfolding blinded_value
  blinded_value_is nz ds s =
      opening-value F R (drop ((length s - 1) * (length s - 1)) ds) (blinded F nz ds s) ∙ sum-blinded nz ds s

  -- ---- the factors

  pub product_all-factors : (nz ds s : List ℕ)
      → product_all F (factors F nz ds s) ≡ F.mul (inv F (blinded_value F nz ds s)) (blinds F nz (length s - 1))
  unfolding factors
  product_all-factors nz ds s =
      product_all_snoc (tab (length s - 1) (draw_at F nz)) (inv F (blinded_value F nz ds s))

  pub factor_draw : (nz ds s : List ℕ) (k : ℕ) → k < length s - 1 → get_or (factors F nz ds s) k 0 ≡ draw_at F nz k
  unfolding factors
  factor_draw nz ds s k h =
      get_or-append (tab (length s - 1) (draw_at F nz)) (inv F (blinded_value F nz ds s) ∷ []) 0 k (rw tab-length h)
      ∙ tab-at (length s - 1) (draw_at F nz) k h

  pub factor_last : (nz ds s : List ℕ) → get_or (factors F nz ds s) (length s - 1) 0 ≡ inv F (blinded_value F nz ds s)
  unfolding factors
  factor_last nz ds s =
      get_or_at (tab (length s - 1) (draw_at F nz)) (inv F (blinded_value F nz ds s)) [] 0 (length s - 1) (tab-length (length s - 1) (draw_at F nz))

  -- the last factor tells a value of 0
  pub last-zero : (nz ds s : List ℕ) → sum F s ≡ 0 → inv F (blinded_value F nz ds s) ≡ 0
  last-zero nz ds s e =
      let b : ℕ = blinds F nz (length s - 1) in
      inv-zero F L (blinded_value F nz ds s)
      (ap (λ (x : ℕ). x % F.q) (blinded_value_is nz ds s ∙ ap (F.mul b) e ∙ mul-zero F R b) ∙ mod-eq_of_lt R.pos)

  module _ (nz ds s : List ℕ) (nonzero : (k : ℕ) → k < length s - 1 → draw_at F nz k ≡ 0 → ⊥) where
    blinds-nonzero : (k : ℕ) → k ≤ length s - 1 → blinds F nz k ≡ 0 → ⊥
    unfolding product_all
    blinds-nonzero zero h e = omega arith
    blinds-nonzero (suc k) h e =
        mul-nonzero (mod-lt (get_or nz k 0) R.pos) (product_all-lt (tab k (draw_at F nz))) (nonzero k h) (blinds-nonzero k (omega arith))
        (sym (product_all-last k (draw_at F nz)) ∙ e)

    -- a value that is not 0 stays so
    pub blinded_value-nonzero : (sum F s ≡ 0 → ⊥) → blinded_value F nz ds s % F.q ≡ 0 → ⊥
    blinded_value-nonzero n e =
        let b : ℕ = blinds F nz (length s - 1) in
        mul-nonzero (product_all-lt (tab (length s - 1) (draw_at F nz))) (sum_lt F R s) (blinds-nonzero (length s - 1) (omega arith)) n
        (sym (mod-eq_of_lt (R.mul-lt b (sum F s))) ∙ ap (λ (x : ℕ). x % F.q) (sym (blinded_value_is nz ds s)) ∙ e)

    -- the value times the factors is 1
    pub inversion : (sum F s ≡ 0 → ⊥) → F.mul (sum F s) (product_all F (factors F nz ds s)) ≡ 1
    inversion n =
        let b : ℕ = blinds F nz (length s - 1) in
        let u : ℕ = blinded_value F nz ds s in
        ap (F.mul (sum F s)) (product_all-factors nz ds s) ∙ mul_left_comm F R (sum F s) (inv F u) b
        ∙ ap (F.mul (inv F u)) (R.mul_comm (sum F s) b ∙ sym (blinded_value_is nz ds s))
        ∙ R.mul_comm (inv F u) u
        ∙ mul-inv F L u (blinded_value-nonzero n)

    -- also where the value is 0: then both are 0
    pub factors_inverse : product_all F (factors F nz ds s) ≡ inv F (sum F s)
    factors_inverse = elim (ℕ_discrete (sum F s) 0) [
      | yes z ↦
          let b : ℕ = blinds F nz (length s - 1) in
          product_all-factors nz ds s ∙ ap (λ (x : ℕ). F.mul x b) (last-zero nz ds s z) ∙ zero-mul F L b
          ∙ sym (inv-zero F L (sum F s) (ap (λ (x : ℕ). x % F.q) z ∙ mod-eq_of_lt R.pos))
      | no n ↦
          inv_unique F L (sum F s) (λ e. n (sym (mod-eq_of_lt (sum_lt F R s)) ∙ e)) (product_all-lt (factors F nz ds s)) (inversion n)
    ]

    -- .. and nothing else
    pub zero-last : inv F (blinded_value F nz ds s) ≡ 0 → sum F s ≡ 0
    zero-last e = elim (ℕ_discrete (sum F s) 0) [
      | yes z ↦ z
      | no n ↦
          let u : ℕ = blinded_value F nz ds s in
          let one : F.mul u (inv F u) ≡ 1 = mul-inv F L u (blinded_value-nonzero n) in
          let none : F.mul u (inv F u) ≡ 0 = ap (F.mul u) e ∙ mul-zero F R u in
          absurd (omega arith)
    ]
