-- The pivot pattern of a table: a list of columns that grows at its end, of which at most one is true of a table, and which elimination leaves.
-- Assumes nothing.
use mathlib.Core.Path.{◌≡◌, refl, sym, ◌∙◌}
use mathlib.Core.List.{List, [], ◌∷◌, ◌++◌}
use mathlib.Core.Logic.{◌≢◌, ◌⊎◌, inl, inr}
use Prim.Native.Nat.{ℕ, zero, suc, ◌+◌, ◌-◌, ◌<◌, ◌≤◌}
use native.Mathlib.Numerals.{add-one, sub-one}
use native.Mathlib.Omega.{arith}
use native.Mathlib.Decide.{ℕ_discrete, dec_lt}
use lib.ListN.{length, get_or, length-append, get_or-append}
use lib.Seq.{ext_get_or}
use Rattle.field.specs.Field.{Ops, Field}
use Rattle.sharing.specs.Run.{tab}
use Rattle.sharing.proofs.Pairs.{tab-length, tab-at}
use Rattle.algebra.specs.Linear.{Table, Combines, Apart}
use Rattle.algebra.specs.Wide.{pivot_at, Passed, IsPattern}
use Rattle.algebra.proofs.Outcome.{Alike, combines_alike, apart_alike}
use Rattle.algebra.proofs.Echelon.{Column, chosen, passed, ech_pivot, ech_rises}
use Rattle.algebra.proofs.Column.{Shape, shape_column}

-- ---- the list

pub pivot_at_lem : (ps : List ℕ) (i : ℕ) → pivot_at ps (suc i) ≡ get_or ps i 0
unfolding pivot_at
pivot_at_lem ps i = rw (sub-one (suc i))

module _ (ps : List ℕ) (c : ℕ) where
  pub pivot_kept : (i : ℕ) → 1 ≤ i → i ≤ length ps → pivot_at (ps ++ (c ∷ [])) i ≡ pivot_at ps i
  unfolding pivot_at
  pivot_kept i a b = get_or-append ps (c ∷ []) 0 (i - 1) (omega arith)

  pub length_grown : length (ps ++ (c ∷ [])) ≡ suc (length ps)
  length_grown = length-append ps (c ∷ []) ∙ add-one (length ps)

-- ps is the list p 1, .., p k
pub record Lists (ps : List ℕ) (p : ℕ → ℕ) (k : ℕ) : Type 0 where
  pub count : length ps ≡ k
  pub at : (i : ℕ) → 1 ≤ i → i ≤ k → pivot_at ps i ≡ p i

pub lists_self : (ps : List ℕ) {k : ℕ} → length ps ≡ k → Lists ps (pivot_at ps) k
lists_self ps e = record { count = e; at = λ i a b. refl }

pub lists_tab : (p : ℕ → ℕ) (k : ℕ) → Lists (tab k (λ i. p (suc i))) p k
lists_tab p k = record { count = tab-length k _; at = go }
  where
    go : (i : ℕ) → 1 ≤ i → i ≤ k → pivot_at (tab k (λ i. p (suc i))) i ≡ p i
    go zero a b = absurd (omega arith)
    go (suc i) a b = pivot_at_lem _ i ∙ tab-at k (λ i. p (suc i)) i b

pub lists_once : {ps qs : List ℕ} {p : ℕ → ℕ} {k : ℕ} → Lists ps p k → Lists qs p k → ps ≡ qs
lists_once {ps} {qs} h g =
    ext_get_or 0 ps qs (h.count ∙ sym g.count)
    (λ i l.
    let n = h.count in
    sym (pivot_at_lem ps i) ∙ h.at (suc i) (omega arith) (omega arith) ∙ sym (g.at (suc i) (omega arith) (omega arith)) ∙ pivot_at_lem qs i)

-- one of p 1, .., p n is c, or none is
pub look : (p : ℕ → ℕ) (c n : ℕ) → ((i : ℕ) × (1 ≤ i) × (i ≤ n) × (p i ≡ c)) ⊎ ((i : ℕ) → 1 ≤ i → i ≤ n → p i ≢ c)
look p c zero = inr (λ i a b. absurd (omega arith))
look p c (suc n) = elim (ℕ_discrete (p (suc n)) c) [
  | yes e ↦ inl (suc n, omega arith, omega arith, e)
  | no e ↦ elim (look p c n) [
    | inl h ↦ inl (h.0, h.1, omega arith, h.3)
    | inr h ↦ inr (λ i a b. elim (ℕ_discrete i (suc n)) [ yes g ↦ rw g e | no g ↦ h i a (omega arith) ])
  ]
]

module _ (F : Ops) (m : ℕ) (T : Table) {C : ℕ} where
  module _ {ps : List ℕ} (h : IsPattern F m T C ps) where
    -- a column has a pivot, or combines
    pub pattern-column : (c : ℕ) → 1 ≤ c → c ≤ C → Column F m T (pivot_at ps) (length ps) c
    pattern-column c a b = elim (look (pivot_at ps) c (length ps)) [
      | inl g ↦ chosen g.0 g.1 g.2 g.3 (rw g.3 at (h.apart g.0 g.1 g.2))
      | inr out ↦ let d = h.combines c a b out in passed out d.0 d.1
    ]

    -- a pivot has as many columns before it, and after it, as there are pivots on that side
    pub pattern_low : (i : ℕ) → 1 ≤ i → i ≤ length ps → i ≤ pivot_at ps i
    pattern_low zero a b = absurd (omega arith)
    pattern_low (suc zero) a b = (h.inside 1 a b).0
    pattern_low (suc (suc i)) a b =
        let g = pattern_low (suc i) (omega arith) (omega arith) in
        let r = h.rises (suc i) (suc (suc i)) (omega arith) (omega arith) b in
        omega arith

    pub pattern_high : (d i : ℕ) → i + d ≡ length ps → 1 ≤ i → pivot_at ps i + d ≤ C
    pattern_high zero i e a = omega (arith, h.inside i a (omega arith))
    pattern_high (suc d) i e a =
        let g = pattern_high d (suc i) (omega arith) (omega arith) in
        let r = h.rises i (suc i) a (omega arith) (omega arith) in
        omega arith

    pub pattern-length : length ps ≤ C
    pattern-length = elim (ℕ_discrete (length ps) 0) [
      | yes e ↦ omega arith
      | no e ↦ omega (arith, pattern_low (length ps) (omega arith) (omega arith), h.inside (length ps) (omega arith) (omega arith))
    ]

    pattern-le : (i k : ℕ) → 1 ≤ i → i ≤ k → k ≤ length ps → pivot_at ps i ≤ pivot_at ps k
    pattern-le i k a b l = elim (ℕ_discrete i k) [ yes e ↦ rw e (omega arith) | no e ↦ let g = h.rises i k a (omega arith) l in omega arith ]

  -- ---- at most one is true of a table

  -- where two patterns agree before pivot i, the second has a pivot i too, and not further right
  reach : {ps qs : List ℕ} → IsPattern F m T C ps → IsPattern F m T C qs → (i : ℕ) → 1 ≤ i → i ≤ length ps
      → ((k : ℕ) → 1 ≤ k → k < i → pivot_at ps k ≡ pivot_at qs k) → (i ≤ length qs) × (pivot_at qs i ≤ pivot_at ps i)
  reach {ps} {qs} h g i a b e = go (pattern-column g (pivot_at ps i) (h.inside i a b).0 (h.inside i a b).1)
    where
      go : Column F m T (pivot_at qs) (length qs) (pivot_at ps i) → (i ≤ length qs) × (pivot_at qs i ≤ pivot_at ps i)
      go (chosen k x y d _) = elim (dec_lt k i) [
        | yes l ↦ let r = h.rises k i x l b in let z = e k x l in absurd (omega arith)
        | no l ↦ let r = pattern-le g i k a (omega arith) y in omega arith
      ]
      go (passed _ v d) = absurd (h.apart i a b v d)

  module _ {ps qs : List ℕ} (h : IsPattern F m T C ps) (g : IsPattern F m T C qs) where
    agree : (n i : ℕ) → 1 ≤ i → i ≤ n → i ≤ length ps → pivot_at ps i ≡ pivot_at qs i
    agree zero i a l b = absurd (omega arith)
    agree (suc n) i a l b =
        let before : (k : ℕ) → 1 ≤ k → k < i → pivot_at ps k ≡ pivot_at qs k = λ k x y. agree n k x (omega arith) (omega arith) in
        let there = reach h g i a b before in
        let back = reach g h i a there.0 (λ k x y. sym (before k x y)) in
        omega arith

    no_longer : length ps ≤ length qs
    no_longer = elim (ℕ_discrete (length ps) 0) [
      | yes e ↦ omega arith
      | no e ↦ (reach h g (length ps) (omega arith) (omega arith) (λ k x y. agree k k x (omega arith) (omega arith))).0
    ]

  pub pattern_once : {ps qs : List ℕ} → IsPattern F m T C ps → IsPattern F m T C qs → ps ≡ qs
  pattern_once {ps} {qs} h g =
      let a = no_longer h g in
      let b = no_longer g h in
      lists_once (record { count = omega arith; at = λ i x y. agree h g i i x (omega arith) (omega arith) }) (lists_self qs refl)

-- ---- from elimination

module _ (F : Ops) (L : Field F) (m w : ℕ) {T U : Table} where
  -- the pivots are the pattern of the columns that were worked on
  pub shape_pattern : {ps : List ℕ} {p : ℕ → ℕ} {k j : ℕ} → j ≤ w → Lists ps p k → Shape F L m w T p k j U → IsPattern F m T j ps
  shape_pattern {ps} {p} {k} {j} l is h =
      let n = is.count in
      record {
        inside = λ i a b. rw (is.at i a (omega arith)) (ech_pivot F L m w p U h.form i a (omega arith));
        rises = λ i s a b c.
            rw (is.at i a (omega arith), is.at s (omega arith) (omega arith)) (ech_rises F L m w p U h.form i s a b (omega arith));
        apart = λ i a b. rw (is.at i a (omega arith)) (apart_at i a (omega arith));
        combines = λ c a b out. combining c out (shape_column F L m w l h c a b);
      }
    where
      apart_at : (i : ℕ) → 1 ≤ i → i ≤ k → Apart F m T (p i)
      apart_at i a b =
          let g = ech_pivot F L m w p U h.form i a b in
          elim (shape_column F L m w l h (p i) g.0 g.1) [ chosen _ _ _ _ f ↦ f | passed out _ _ ↦ absurd (out i a b refl) ]

      combining : (c : ℕ) → Passed ps c → Column F m T p k c → (v : ℕ → ℕ) × Combines F m T c v
      combining c out (chosen i a b e _) = let n = is.count in absurd (out i a (omega arith) (is.at i a b ∙ e))
      combining c out (passed _ v g) = (v, g)

-- ---- only the values in the rows and columns matter

module _ (F : Ops) (L : Field F) (m w : ℕ) {T U : Table} (e : Alike m w T U) where
  pub pattern_alike : {C : ℕ} {ps : List ℕ} → C ≤ w → IsPattern F m T C ps → IsPattern F m U C ps
  pattern_alike l h =
      record {
        inside = h.inside;
        rises = h.rises;
        apart = λ i a b. let g = h.inside i a b in apart_alike F L m w e _ g.0 (omega arith) (h.apart i a b);
        combines = λ c a b out. let d = h.combines c a b out in (d.0, combines_alike F L m w e c a (omega arith) d.0 d.1);
      }
