-- What an echelon form tells of its columns.
-- Assumes nothing.
use mathlib.Core.Path.{◌≡◌, refl, sym, ap, ◌∙◌}
use mathlib.Core.Logic.{◌≢◌}
use Prim.Native.Nat.{ℕ, zero, suc, ◌<◌, ◌≤◌}
use native.Mathlib.Nat.{mod-eq_of_lt}
use native.Mathlib.Omega.{arith}
use native.Mathlib.Decide.{ℕ_discrete}
use Rattle.field.specs.Field.{Ops, Field}
use Rattle.algebra.specs.Linear.{Table, combination, Combines, Apart}
use Rattle.algebra.proofs.Arithmetic.{ring, mul-zero, mul-one, mul_comm, add_left, add-neg, sub_back, combination-zero, combination-suc, combination_ext, combination-zeros}
use Rattle.algebra.proofs.Outcome.{adds, combines, Small}
use Rattle.algebra.proofs.Rows.{Zeros}
use Rattle.algebra.proofs.Opened.{less, opened, opened-at, opened_other, opened-zero}

-- Which columns combine: those with no pivot. Rows 1 to k have pivots, row i's in column p i
pub data Column (F : Ops) (m : ℕ) (T : Table) (p : ℕ → ℕ) (k c : ℕ) : Type 0 where
  chosen : (i : ℕ) → 1 ≤ i → i ≤ k → p i ≡ c → Apart F m T c → Column F m T p k c
  passed : ((i : ℕ) → 1 ≤ i → i ≤ k → p i ≢ c) → (v : ℕ → ℕ) → Combines F m T c v → Column F m T p k c

module _ (F : Ops) (L : Field F) (m w : ℕ) where
  open F use {q, add as ◌⊕◌, mul as ◌⊙◌, neg}

  infixl 60 ◌⊕◌
  infixl 70 ◌⊙◌
  -- column j is 0 in rows k and up
  abbrev pub Below : ℕ → ℕ → Table → Type 0
  Below k j T = (r : ℕ) → k ≤ r → r ≤ m → T r j ≡ 0

  -- the first j columns are in echelon form, with k pivots, row i's in column p i
  pub data Echelon (p : ℕ → ℕ) (T : Table) : ℕ → ℕ → Type 0 where
    start : Echelon p T zero zero
    pivot : {k j : ℕ} → Echelon p T k j → suc k ≤ m → p (suc k) ≡ suc j → T (suc k) (suc j) ≡ 1 → Below (suc (suc k)) (suc j) T
        → Echelon p T (suc k) (suc j)
    pass : {k j : ℕ} → Echelon p T k j → Below (suc k) (suc j) T → Echelon p T k (suc j)

  module _ (p : ℕ → ℕ) (T : Table) where
    pub ech_zeros : {k j : ℕ} → Echelon p T k j → Zeros F L m w (suc k) (suc j) T
    ech_zeros start r c kr rm a l = absurd (omega arith)
    ech_zeros (pivot {k = k} {j = j} e km pk one b) r c kr rm a l = elim (ℕ_discrete c (suc j)) [
      | yes h ↦ rw h (b r kr rm)
      | no h ↦ ech_zeros e r c (omega arith) rm a (omega arith)
    ]
    ech_zeros (pass {k = k} {j = j} e b) r c kr rm a l = elim (ℕ_discrete c (suc j)) [
      | yes h ↦ rw h (b r kr rm)
      | no h ↦ ech_zeros e r c kr rm a (omega arith)
    ]

    pub ech_rows : {k j : ℕ} → Echelon p T k j → k ≤ m
    ech_rows start = omega arith
    ech_rows (pivot e km pk one b) = km
    ech_rows (pass e b) = ech_rows e

    pub ech_pivot : {k j : ℕ} → Echelon p T k j → (i : ℕ) → 1 ≤ i → i ≤ k → (1 ≤ p i) × (p i ≤ j)
    ech_pivot start i a l = absurd (omega arith)
    ech_pivot (pivot {k = k} {j = j} e km pk one b) i a l = elim (ℕ_discrete i (suc k)) [
      | yes h ↦ rw (h, pk) (omega arith)
      | no h ↦ let g = ech_pivot e i a (omega arith) in omega arith
    ]
    ech_pivot (pass {k = k} {j = j} e b) i a l = let g = ech_pivot e i a l in omega arith

    -- a later row's pivot stands further right
    pub ech_rises : {k j : ℕ} → Echelon p T k j → (i s : ℕ) → 1 ≤ i → i < s → s ≤ k → p i < p s
    ech_rises start i s a b l = absurd (omega arith)
    ech_rises (pivot {k = k} {j = j} e km pk one w) i s a b l = elim (ℕ_discrete s (suc k)) [
      | yes h ↦ rw (h, pk) (let g = ech_pivot e i a (omega arith) in omega arith)
      | no h ↦ ech_rises e i s a b (omega arith)
    ]
    ech_rises (pass e w) i s a b l = ech_rises e i s a b l

    -- the right side that is left when row k's unknown is known
    less_zero : (k : ℕ) (b : ℕ → ℕ) → T k (p k) ≡ 1 → Below (suc k) (p k) T → ((r : ℕ) → suc k ≤ r → r ≤ m → b r ≡ 0) → (r : ℕ)
        → k ≤ r → r ≤ m → less F p T k b r ≡ 0
    less_zero k b one w z r kr l = elim (ℕ_discrete r k) [
      | yes h ↦ rw (h, one, mul-one F L) (sym (add_left F L (b k) _) ∙ add-neg F L _)
      | no h ↦ rw (z r (omega arith) l, w r (omega arith) l, mul-zero F L) (add-neg F L 0)
    ]

    -- what is opened solves the system of the first j columns, for a right side that is 0 where no row has a pivot
    pub opened-solves : {k j : ℕ} → Echelon p T k j → (b : ℕ → ℕ) → ((r : ℕ) → b r < q) → ((r : ℕ) → suc k ≤ r → r ≤ m → b r ≡ 0)
        → (r : ℕ) → 1 ≤ r → r ≤ m → combination F (T r) (opened F p T k b) j ≡ b r
    opened-solves start b small z r a l = combination-zero F L _ _ ∙ sym (z r (omega arith) l)
    opened-solves (pass {k = k} {j = j} e w) b small z r a l =
        combination-suc F L j _ _
        ∙ rw (opened-zero F p T k b (suc j) (λ i x y h. let g = ech_pivot e i x y in omega arith), opened-solves e b small z r a l)
        (simp ring (mod-eq_of_lt (small r)))
    opened-solves (pivot {k = k} {j = j} e km pk one w) b small z r a l =
        combination-suc F L j _ _
        ∙ rw (
          opened-at F p T k b (suc j) (sym pk),
          combination_ext F L j (T r) (T r) _ _ (λ c _ _. refl) (λ c x y. opened_other F p T k b c (λ h. let g : c ≡ suc j = h ∙ pk in omega arith)),
          opened-solves e (less F p T (suc k) b) (λ r. L.ring.add_lt _ _) (less_zero (suc k) b (rw pk one) (rw pk w) z) r a l,
          pk,
        ) (rw (mul_comm F L (T r (suc j)) (b (suc k))) (sub_back F L _ _) ∙ mod-eq_of_lt (small r))

    -- a pivot's column is no combination of the columns before it
    pivot_apart : {k j : ℕ} → Echelon p T k j → suc k ≤ m → T (suc k) (suc j) ≡ 1 → Apart F m T (suc j)
    pivot_apart {k} {j} e km one v h =
        let z : ◌≡◌ {A = ℕ} 0 1 =
        sym (combination-zeros F L j (T (suc k)) v (λ c a l. ech_zeros e (suc k) c (omega arith) km a (omega arith)))
        ∙ adds F m T refl h (suc k) (omega arith) km ∙ one in
        omega arith

    -- a column that is 0 in the rows without a pivot is one
    pass_combines : {k j : ℕ} → Small F T → Echelon p T k j → Below (suc k) (suc j) T → Combines F m T (suc j) (opened F p T k (λ r. T r (suc j)))
    pass_combines {k} {j} small e w = combines F m T refl (opened-solves e (λ r. T r (suc j)) (λ r. small r (suc j)) w)

    column-more : {k j c : ℕ} → p (suc k) ≡ suc j → c ≢ suc j → Column F m T p k c → Column F m T p (suc k) c
    column-more pk n (chosen i a l e f) = chosen i a (omega arith) e f
    column-more {k} pk n (passed h v w) =
        passed (λ i a l e. elim (ℕ_discrete i (suc k)) [ yes u ↦ n (sym e ∙ ap p u ∙ pk) | no u ↦ h i a (omega arith) e ]) v w

    pub columns : {k j : ℕ} → Small F T → Echelon p T k j → (c : ℕ) → 1 ≤ c → c ≤ j → Column F m T p k c
    columns small start c a l = absurd (omega arith)
    columns small (pivot {k = k} {j = j} e km pk one w) c a l = elim (ℕ_discrete c (suc j)) [
      | yes h ↦ chosen (suc k) (omega arith) (omega arith) (pk ∙ sym h) (rw h (pivot_apart e km one))
      | no h ↦ column-more pk h (columns small e c a (omega arith))
    ]
    columns small (pass {k = k} {j = j} e w) c a l = elim (ℕ_discrete c (suc j)) [
      | yes h ↦ rw h (passed (λ i x y u. let g = ech_pivot e i x y in omega arith) _ (pass_combines small e w))
      | no h ↦ columns small e c a (omega arith)
    ]

  -- only the first j columns, in the m rows, and the places of the k pivots matter
  pub ech_ext : {p p' : ℕ → ℕ} {T U : Table} {k j : ℕ} → ((i : ℕ) → 1 ≤ i → i ≤ k → p' i ≡ p i)
      → ((r c : ℕ) → 1 ≤ r → r ≤ m → 1 ≤ c → c ≤ j → U r c ≡ T r c) → Echelon p T k j → Echelon p' U k j
  ech_ext hp h start = start
  ech_ext hp h (pivot {k = k} {j = j} e km pk one b) =
      pivot (ech_ext (λ i a l. hp i a (omega arith)) (λ r c a rm d l. h r c a rm d (omega arith)) e) km
      (hp (suc k) (omega arith) (omega arith) ∙ pk)
      (h (suc k) (suc j) (omega arith) km (omega arith) (omega arith) ∙ one)
      (λ r kr rm. h r (suc j) (omega arith) rm (omega arith) (omega arith) ∙ b r kr rm)
  ech_ext hp h (pass {k = k} {j = j} e b) =
      pass (ech_ext hp (λ r c a rm d l. h r c a rm d (omega arith)) e)
      (λ r kr rm. h r (suc j) (omega arith) rm (omega arith) (omega arith) ∙ b r kr rm)
