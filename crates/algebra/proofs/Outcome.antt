-- At most one answer is true of a table, and it depends on the table's values in its rows and columns only.
-- Assumes nothing.
use mathlib.Core.Path.{◌≡◌, refl, sym, ap, ◌∙◌, ◌≡⟨◌⟩◌, ◌∎}
use mathlib.Core.List.{List}
use mathlib.Core.Logic.{◌⊎◌, inl, inr}
use Prim.Native.Nat.{ℕ, zero, suc, ◌+◌, ◌-◌, ◌%◌, ◌<◌, ◌≤◌}
use native.Mathlib.Nat.{mod-eq_of_lt}
use native.Mathlib.Omega.{arith}
use native.Mathlib.Decide.{ℕ_discrete, dec_lt}
use native.Mathlib.Numerals.{sub-one}
use lib.Seq.{ext_get_or}
use Rattle.field.specs.Field.{Ops, Field, inv}
use Rattle.field.proofs.Inverses.{mul-inv}
use Rattle.algebra.specs.Linear.{Table, combination, Combines, Apart, IsSolved, IsStopped, Answer, solved, stopped, Left, Means}
use Rattle.algebra.proofs.Arithmetic.{ring, add-neg, mul-add, mul_comm, mul-neg, neg-mul, mul_right, sub_back, zero-add, cancel_right, combination-zero, combination-suc, combination-lt, combination_lin, combination_ext, combination_comm}

module _ (F : Ops) (m : ℕ) (T : Table) where
  -- the first n columns combine to the next
  abbrev pub Adds : ℕ → (ℕ → ℕ) → Type 0
  Adds n v = (r : ℕ) → 1 ≤ r → r ≤ m → combination F (T r) v n ≡ T r (suc n)

  pub combines : {n j : ℕ} {v : ℕ → ℕ} → j ≡ suc n → Adds n v → Combines F m T j v
  combines {n} {j} e h = record { holds = λ r a b. let d : j - 1 ≡ n = omega arith in rw (d, e) (h r a b) }

  pub adds : {n j : ℕ} {v : ℕ → ℕ} → j ≡ suc n → Combines F m T j v → Adds n v
  adds {n} {j} e h r a b = let d : j - 1 ≡ n = omega arith in rw (d, e) at (h.holds r a b)

  pub solved_once : {x y : ℕ → ℕ} → IsSolved F m T x → IsSolved F m T y → (c : ℕ) → 1 ≤ c → c ≤ m → x c ≡ y c
  solved_once {y = y} h g c a b = sym (h.only y g.solves c a b) ∙ g.only y g.solves c a b

  pub not_both : {x : ℕ → ℕ} {j : ℕ} → IsSolved F m T x → IsStopped F m T j → ⊥
  not_both {j = j} h g = h.independent j g.low g.high g.factors g.combines

  pub stopped_once : {i j : ℕ} → IsStopped F m T i → IsStopped F m T j → i ≡ j
  stopped_once {i} {j} h g = elim (ℕ_discrete i j) [
    | yes e ↦ e
    | no n ↦ elim (dec_lt i j) [
      | yes l ↦ absurd (g.first i h.low l h.factors h.combines)
      | no k ↦ absurd (h.first j g.low (omega arith) g.factors g.combines)
    ]
  ]

  -- at most one answer is true of a table, with at most one solution
  pub one_answer : (a b : Answer) (x y : List ℕ) → Means F m T a x → Left m a x → Means F m T b y → Left m b y → (a ≡ b) × (x ≡ y)
  one_answer solved solved x y h lx g ly =
      (refl, ext_get_or 0 x y (lx ∙ sym ly) (λ i l. rw (sub-one (suc i)) at (solved_once h g (suc i) (omega arith) (omega arith))))
  one_answer solved (stopped j) x y h lx g ly = absurd (not_both h g)
  one_answer (stopped i) solved x y h lx g ly = absurd (not_both g h)
  one_answer (stopped i) (stopped j) x y h lx g ly = (ap stopped (stopped_once h g), lx ∙ sym ly)

  -- "No columns at all combine only to the zero column, so column 1 stops exactly when it is zero"
  pub first_stops : Field F → 1 ≤ m → ((r : ℕ) → 1 ≤ r → r ≤ m → T r 1 ≡ 0) → IsStopped F m T 1
  first_stops L l h =
      record {
        low = omega arith;
        high = l;
        factors = λ c. 0;
        combines = combines refl (λ r a b. combination-zero F L (T r) (λ c. 0) ∙ sym (h r a b));
        first = λ i a b. absurd (omega arith);
      }

  pub first-stopped : Field F → IsStopped F m T 1 → (r : ℕ) → 1 ≤ r → r ≤ m → T r 1 ≡ 0
  first-stopped L h r a b = sym (adds refl h.combines r a b) ∙ combination-zero F L (T r) h.factors

-- one value in each entry of m rows and w columns
abbrev pub Alike : ℕ → ℕ → Table → Table → Type 0
Alike m w T U = (r c : ℕ) → 1 ≤ r → r ≤ m → 1 ≤ c → c ≤ w → T r c ≡ U r c

pub alike_back : (m w : ℕ) {T U : Table} → Alike m w T U → Alike m w U T
alike_back m w e r c a b d g = sym (e r c a b d g)

module _ (F : Ops) (L : Field F) (m : ℕ) where
  module _ (w : ℕ) {T U : Table} (e : Alike m w T U) where
    pub combines_alike : (j : ℕ) → 1 ≤ j → j ≤ w → (v : ℕ → ℕ) → Combines F m T j v → Combines F m U j v
    combines_alike j a b v h =
        record {
          holds = λ r x y.
              combination_ext F L (j - 1) (U r) (T r) v v (λ c k l. sym (e r c x y k (omega arith))) (λ c k l. refl)
              ∙ h.holds r x y ∙ e r j x y a b;
        }

  module _ (w : ℕ) {T U : Table} (e : Alike m w T U) where
    pub apart_alike : (j : ℕ) → 1 ≤ j → j ≤ w → Apart F m T j → Apart F m U j
    apart_alike j a b h v g = h v (combines_alike w (alike_back m w e) j a b v g)

  module _ {T U : Table} (e : Alike m (m + 1) T U) where
    pub solved_alike : {x : ℕ → ℕ} → IsSolved F m T x → IsSolved F m U x
    solved_alike {x} h =
        record {
          independent = λ j a b. apart_alike (m + 1) e j a (omega arith) (h.independent j a b);
          solves = combines_alike (m + 1) e (m + 1) (omega arith) (omega arith) x h.solves;
          only = λ y g. h.only y (combines_alike (m + 1) (alike_back m (m + 1) e) (m + 1) (omega arith) (omega arith) y g);
        }

    pub stopped_alike : {j : ℕ} → IsStopped F m T j → IsStopped F m U j
    stopped_alike {j} h =
        record {
          low = h.low;
          high = h.high;
          factors = h.factors;
          combines = combines_alike (m + 1) e j h.low (omega (arith, h.high)) h.factors h.combines;
          first = λ i a b. apart_alike (m + 1) e i a (omega (arith, h.high)) (h.first i a b);
        }

    pub means_alike : (a : Answer) (x : List ℕ) → Means F m T a x → Means F m U a x
    means_alike solved x h = solved_alike h
    means_alike (stopped j) x h = stopped_alike h

-- every entry is an element
abbrev pub Small : Ops → Table → Type 0
Small F T = (r c : ℕ) → T r c < F.q

module _ (F : Ops) (L : Field F) (m : ℕ) (T : Table) (small : Small F T) where
  open F use {q, add as ◌⊕◌, mul as ◌⊙◌, neg}

  infixl 60 ◌⊕◌
  infixl 70 ◌⊙◌
  -- what `differ` needs in one row: t is the last entry, A and B are the sums of the others, u and u' are factors that take x - y to 1
  solve-last : (u u' A B t x y : ℕ) → u ⊕ u' ≡ 0 → B ⊕ t ⊙ x ≡ A ⊕ t ⊙ y → u ⊙ x ⊕ u' ⊙ y ≡ 1 → u ⊙ A ⊕ u' ⊙ B ≡ t % q
  solve-last u u' A B t x y z e o =
      u ⊙ A ⊕ u' ⊙ B ≡⟨ (simp (z, ring)) ⟩
      u ⊙ A ⊕ u' ⊙ B ⊕ (u ⊕ u') ⊙ (t ⊙ x) ≡⟨ (simp ring) ⟩
      u ⊙ A ⊕ u' ⊙ (B ⊕ t ⊙ x) ⊕ u ⊙ (t ⊙ x) ≡⟨ (rw e) ⟩
      u ⊙ A ⊕ u' ⊙ (A ⊕ t ⊙ y) ⊕ u ⊙ (t ⊙ x) ≡⟨ (simp ring) ⟩
      (u ⊕ u') ⊙ A ⊕ t ⊙ (u ⊙ x ⊕ u' ⊙ y) ≡⟨ (rw (z, o) (simp ring)) ⟩
      t % q ∎

  minus_zero : (a b : ℕ) → (a ⊕ neg b) % q ≡ 0 → a % q ≡ b % q
  minus_zero a b e = sym (sub_back F L a b) ∙ rw (sym (mod-eq_of_lt (L.ring.add_lt a (neg b))) ∙ e) (zero-add F L b)

  -- two vectors with one product in every row, and different at the last column: that column combines
  module _ (n : ℕ) (x y : ℕ → ℕ) (e : (r : ℕ) → 1 ≤ r → r ≤ m → combination F (T r) x (suc n) ≡ combination F (T r) y (suc n))
      (ne : x (suc n) % q ≡ y (suc n) % q → ⊥) where
    u : ℕ
    u = inv F (x (suc n) ⊕ neg (y (suc n)))

    quotients : ℕ → ℕ
    quotients c = u ⊙ y c ⊕ neg u ⊙ x c

    unit : u ⊙ x (suc n) ⊕ neg u ⊙ y (suc n) ≡ 1
    unfolding u
    unit =
        rw (neg-mul F L u (y (suc n)), ← (mul-neg F L u (y (suc n))), ← (mul-add F L u (x (suc n)) (neg (y (suc n)))), mul_comm F L u (x (suc n) ⊕ neg (y (suc n))))
        (mul-inv F L _ (λ z. ne (minus_zero _ _ z)))

    differ : Adds F m T n quotients
    unfolding quotients
    differ r a b =
        combination_comm F L n (T r) quotients ∙ combination_lin F L n u (neg u) y x quotients (T r) (λ c _ _. refl)
        ∙ rw (combination_comm F L n y (T r), combination_comm F L n x (T r))
        (solve-last u (neg u) _ _ (T r (suc n)) (x (suc n)) (y (suc n)) (add-neg F L u) (simp combination-suc at (e r a b)) unit)
        ∙ mod-eq_of_lt (small r (suc n))

  -- Two vectors with one product in every row are equal where the columns are apart, if they are equal at the others.
  pub same : (n : ℕ) (x y : ℕ → ℕ) → ((r : ℕ) → 1 ≤ r → r ≤ m → combination F (T r) x n ≡ combination F (T r) y n)
      → ((c : ℕ) → 1 ≤ c → c ≤ n → (x c % q ≡ y c % q) ⊎ Apart F m T c) → (c : ℕ) → 1 ≤ c → c ≤ n → x c % q ≡ y c % q
  same zero x y e h c a b = absurd (omega arith)
  same (suc n) x y e h c a b = elim (ℕ_discrete c (suc n)) [
    | yes k ↦ rw k last
    | no k ↦ same n x y low (λ i g l. h i g (omega arith)) c a (omega arith)
  ]
    where
      last : x (suc n) % q ≡ y (suc n) % q
      last = elim (h (suc n) (omega arith) (omega arith)) [
        | inl p ↦ p
        | inr apart ↦ elim (ℕ_discrete (x (suc n) % q) (y (suc n) % q)) [
          | yes p ↦ p
          | no p ↦ absurd (apart (quotients n x y e p) (combines F m T refl (differ n x y e p)))
        ]
      ]

      low : (r : ℕ) → 1 ≤ r → r ≤ m → combination F (T r) x n ≡ combination F (T r) y n
      low r g l =
          sym (mod-eq_of_lt (combination-lt F L n (T r) x))
          ∙ cancel_right F L (T r (suc n) ⊙ y (suc n))
          (rw (← (mul_right F L (T r (suc n)) (x (suc n))), last, mul_right F L (T r (suc n)) (y (suc n))) at (simp combination-suc at (e r g l)))
          ∙ mod-eq_of_lt (combination-lt F L n (T r) y)
