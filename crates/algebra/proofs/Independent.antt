-- That no column is a combination of those before it is independence in the usual sense: only the factors 0 make the columns add up to 0.
-- Assumes nothing.
use mathlib.Core.Path.{◌≡◌, refl, sym, ◌∙◌}
use mathlib.Core.Logic.{inr}
use Prim.Native.Nat.{ℕ, zero, suc, ◌%◌, ◌<◌, ◌≤◌}
use native.Mathlib.Nat.{mod-eq_of_lt, zero-mod}
use native.Mathlib.Omega.{arith}
use native.Mathlib.Decide.{ℕ_discrete}
use lib.Dec.{ltb, eqb}
use borrow.Author.Tests.{lt-ltb, le-ltb, eq-eqb, ne_eqb}
use Rattle.field.specs.Field.{Ops, Field, pick}
use Rattle.algebra.specs.Linear.{Table, combination, Apart}
use Rattle.algebra.proofs.Arithmetic.{ring, add-zero, add-neg, add_left, mul-neg, mul-one, combination-suc, combination-lt, combination_ext, combination_comm, combination-zeros}
use Rattle.algebra.proofs.Outcome.{Small, adds, same}

module _ (F : Ops) (L : Field F) where
  open F use {q, neg}

  -- factors that are 0 after column j add nothing there
  pad : (n j : ℕ) (a v : ℕ → ℕ) → j ≤ n → ((c : ℕ) → j < c → v c ≡ 0) → combination F a v n ≡ combination F a v j
  pad zero j a v l h = let e : j ≡ 0 = omega arith in rw e
  pad (suc n) j a v l h = elim (ℕ_discrete j (suc n)) [
    | yes e ↦ rw e
    | no e ↦
        combination-suc F L n a v ∙ rw (h (suc n) (omega arith), pad n j a v (omega arith) h)
        (simp ring (mod-eq_of_lt (combination-lt F L j a v)))
  ]

  -- v before column j, -1 at j, 0 after
  module _ (j : ℕ) (v : ℕ → ℕ) where
    relation : ℕ → ℕ
    relation c = pick (ltb c j) (v c) (pick (eqb c j) (neg 1) 0)

    relation_low : (c : ℕ) → c < j → relation c ≡ v c
    unfolding relation
    relation_low c l = rw (lt-ltb c j l)

    relation_at : relation j ≡ neg 1
    unfolding relation
    relation_at = rw (le-ltb j j (omega arith), eq-eqb j j refl)

    relation_high : (c : ℕ) → j < c → relation c ≡ 0
    unfolding relation
    relation_high c l = rw (le-ltb c j (omega arith), ne_eqb c j (omega arith))

  module _ (m : ℕ) (T : Table) where
    abbrev pub Independent : Type 0
    Independent =
        (v : ℕ → ℕ) → ((r : ℕ) → 1 ≤ r → r ≤ m → combination F (T r) v m ≡ 0) → (c : ℕ) → 1 ≤ c → c ≤ m → v c % q ≡ 0

    pub apart_usual : Small F T → ((j : ℕ) → 1 ≤ j → j ≤ m → Apart F m T j) → Independent
    apart_usual small apart v h c a b =
        same F L m T small m v (λ c. 0)
        (λ r k l. h r k l ∙ sym (combination_comm F L m (T r) (λ c. 0) ∙ combination-zeros F L m (λ c. 0) (T r) (λ c x y. refl)))
        (λ c k l. inr (apart c k l)) c a b
        ∙ zero-mod q

    pub usual_apart : Independent → (j : ℕ) → 1 ≤ j → j ≤ m → Apart F m T j
    usual_apart ind zero a b v h = absurd (omega arith)
    usual_apart ind (suc j) a b v h =
        let z : neg 1 ≡ 0 = sym (mod-eq_of_lt (L.ring.neg_lt 1)) ∙ rw (relation_at (suc j) v) at (ind (relation (suc j) v) zeros (suc j) a b) in
        let e : ◌≡◌ {A = ℕ} 1 0 = sym (add-zero F L 1 ∙ mod-eq_of_lt L.one-lt) ∙ rw z at (add-neg F L 1) in
        omega arith
      where
        zeros : (r : ℕ) → 1 ≤ r → r ≤ m → combination F (T r) (relation (suc j) v) m ≡ 0
        zeros r k l =
            pad m (suc j) (T r) (relation (suc j) v) b (relation_high (suc j) v) ∙ combination-suc F L j (T r) (relation (suc j) v)
            ∙ rw (
              relation_at (suc j) v,
              combination_ext F L j (T r) (T r) (relation (suc j) v) v (λ c x y. refl) (λ c x y. relation_low (suc j) v c (omega arith)),
              adds F m T refl h r k l,
              mul-neg,
              mul-one,
            ) (sym (add_left F L _ _) ∙ add-neg F L _)
