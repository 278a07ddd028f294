-- The unknowns that back substitution finds, and what each Open and its Lift do to them.
-- Assumes nothing.
use mathlib.Core.Path.{◌≡◌, refl, sym, ap, ◌∙◌}
use mathlib.Core.Logic.{◌≢◌}
use mathlib.Core.Bool.{Bool}
use Prim.Native.Nat.{ℕ, zero, suc, ◌<◌, ◌≤◌}
use native.Mathlib.Omega.{arith}
use native.Mathlib.Decide.{ℕ_discrete}
use lib.Dec.{eqb}
use borrow.Author.Tests.{eq-eqb, ne_eqb}
use Rattle.field.specs.Field.{Ops, Field, sub, pick}
use Rattle.algebra.specs.Linear.{Table}
use Rattle.algebra.specs.Steps.{Lifts}

module _ (F : Ops) (p : ℕ → ℕ) where
  -- the right side that is left when the unknown of row n is known
  abbrev pub less : Table → ℕ → (ℕ → ℕ) → ℕ → ℕ
  less T n b r = sub F (b r) (F.mul (b n) (T r (p n)))

  -- row i has its pivot 1 in column p i, for i = 1..n; b is the right side. An unknown whose column has no pivot is 0
  unfoldable pub opened : Table → ℕ → (ℕ → ℕ) → ℕ → ℕ
  opened T zero b c = 0
  opened T (suc n) b c = pick (eqb c (p (suc n))) (b (suc n)) (opened T n (less T (suc n) b) c)

  module _ (T : Table) (n : ℕ) (b : ℕ → ℕ) (c : ℕ) where
    pub opened-at : c ≡ p (suc n) → opened T (suc n) b c ≡ b (suc n)
    unfolding opened
    opened-at e = ap (λ (t : Bool). pick t (b (suc n)) (opened T n (less T (suc n) b) c)) (eq-eqb c (p (suc n)) e)

    pub opened_other : c ≢ p (suc n) → opened T (suc n) b c ≡ opened T n (less T (suc n) b) c
    unfolding opened
    opened_other e = ap (λ (t : Bool). pick t (b (suc n)) (opened T n (less T (suc n) b) c)) (ne_eqb c (p (suc n)) e)

  -- a column with no pivot has the unknown 0
  pub opened-zero : (T : Table) (n : ℕ) (b : ℕ → ℕ) (c : ℕ) → ((i : ℕ) → 1 ≤ i → i ≤ n → c ≢ p i) → opened T n b c ≡ 0
  opened-zero T zero b c h = unfold opened in refl
  opened-zero T (suc n) b c h =
      opened_other T n b c (h (suc n) (omega arith) (omega arith)) ∙ opened-zero T n _ c (λ i a l. h i a (omega arith))

  pub opened-lt : Field F → (T : Table) (n : ℕ) (b : ℕ → ℕ) → ((r : ℕ) → b r < F.q) → (c : ℕ) → opened T n b c < F.q
  opened-lt L T zero b h c = rw (opened-zero T zero b c (λ i a l. absurd (omega arith))) L.ring.pos
  opened-lt L T (suc n) b h c = elim (ℕ_discrete c (p (suc n))) [
    | yes e ↦ rw (opened-at T n b c e) (h (suc n))
    | no e ↦ rw (opened_other T n b c e) (opened-lt L T n (less T (suc n) b) (λ r. L.ring.add_lt _ _) c)
  ]

  -- only the pivots' columns and the right side matter
  opened_ext : (n : ℕ) (T U : Table) (a b : ℕ → ℕ) (c : ℕ)
      → ((r i : ℕ) → 1 ≤ r → r ≤ n → 1 ≤ i → i ≤ n → U r (p i) ≡ T r (p i)) → ((r : ℕ) → 1 ≤ r → r ≤ n → b r ≡ a r)
      → opened U n b c ≡ opened T n a c
  opened_ext zero T U a b c h e = unfold opened in refl
  opened_ext (suc n) T U a b c h e = elim (ℕ_discrete c (p (suc n))) [
    | yes k ↦ opened-at U n b c k ∙ e (suc n) (omega arith) (omega arith) ∙ sym (opened-at T n a c k)
    | no k ↦
        opened_other U n b c k
        ∙ opened_ext n T U _ _ c (λ r i x y s t. h r i x (omega arith) s (omega arith))
        (λ r x y. rw (e r x (omega arith), e (suc n) (omega arith) (omega arith), h r (suc n) x (omega arith) (omega arith) (omega arith)))
        ∙ sym (opened_other T n a c k)
  ]

  -- Rows m down to n+1 are opened: x has their unknowns, and the table T still gives those of rows 1 to n.
  -- w is the last column, and X the unknowns that are sought.
  pub record Opening (m w : ℕ) (X : ℕ → ℕ) (n : ℕ) (T : Table) (x : ℕ → ℕ) : Type 0 where
    pub known : (i : ℕ) → n < i → i ≤ m → x (p i) ≡ X (p i)
    pub left : (i : ℕ) → 1 ≤ i → i ≤ n → opened T n (λ r. T r w) (p i) ≡ X (p i)

  pub opening_start : (m w : ℕ) (T : Table) (x : ℕ → ℕ) → Opening m w (opened T m (λ r. T r w)) m T x
  opening_start m w T x = record { known = λ i a b. absurd (omega arith); left = λ i a b. refl }

  -- the pivots stand in different columns, all before the last
  pub record Pivots (m w : ℕ) : Type 0 where
    pub before : (i : ℕ) → 1 ≤ i → i ≤ m → (1 ≤ p i) × (p i < w)
    pub apart : (i k : ℕ) → 1 ≤ i → i < k → k ≤ m → p i ≢ p k

  pub opening-next : (m w : ℕ) → Pivots m w → (X : ℕ → ℕ) (n : ℕ) → suc n ≤ m → {T U : Table} {x y : ℕ → ℕ} {v : ℕ}
      → Lifts m w F (suc n) (p (suc n)) v T U → v ≡ T (suc n) w → y (p (suc n)) ≡ T (suc n) w → ((i : ℕ) → suc n < i → i ≤ m → y (p i) ≡ x (p i))
      → Opening m w X (suc n) T x → Opening m w X n U y
  opening-next m w P X n l {T} {U} {x} {y} O e here there h =
      record {
        known = λ i a b. elim (ℕ_discrete i (suc n)) [
          | yes s ↦ rw s (here ∙ sym (opened-at T n _ (p (suc n)) refl) ∙ h.left (suc n) (omega arith) (omega arith))
          | no s ↦ there i (omega arith) b ∙ h.known i (omega arith) b
        ];
        left = λ i a b.
            opened_ext n T U _ _ (p i)
            (λ r k x y s t. let c = P.before k s (omega arith) in O.kept r (p k) (omega arith) (λ e. absurd (let z : ⊥ = omega arith in z)))
            (λ r x y. O.new r x (omega arith) ∙ ap (λ (u : ℕ). sub F (T r w) (F.mul u (T r (p (suc n))))) e)
            ∙ sym (opened_other T n _ (p i) (P.apart i (suc n) a (omega arith) l))
            ∙ h.left i a (omega arith);
      }
