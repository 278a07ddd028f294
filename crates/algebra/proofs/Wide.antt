-- The answer of a wide system: at most one is true of a table, it depends on the table's values in its rows and columns only, and elimination
-- leaves it.
-- Assumes nothing.
use mathlib.Core.Path.{◌≡◌, refl, sym, ap, ◌∙◌}
use mathlib.Core.List.{List}
use mathlib.Core.Logic.{inl, inr}
use Prim.Native.Nat.{ℕ, suc, ◌+◌, ◌%◌, ◌<◌, ◌≤◌}
use native.Mathlib.Nat.{mod-eq_of_lt, zero-mod}
use native.Mathlib.Numerals.{add-one, sub-one}
use native.Mathlib.Omega.{arith}
use lib.ListN.{length}
use lib.Seq.{ext_get_or}
use Rattle.field.specs.Field.{Ops, Field}
use Rattle.algebra.specs.Linear.{Table}
use Rattle.algebra.specs.Wide.{Passed, WideAnswer, found, short, WideLeft, WideSolves, IsPattern, IsFound, IsShort, WideMeans}
use Rattle.algebra.proofs.Arithmetic.{combination_ext}
use Rattle.algebra.proofs.Outcome.{Adds, adds, combines, Alike, alike_back, combines_alike, Small, same}
use Rattle.algebra.proofs.Opened.{opened, opened-zero, opened-lt}
use Rattle.algebra.proofs.Echelon.{chosen, passed, opened-solves}
use Rattle.algebra.proofs.Column.{Shape}
use Rattle.algebra.proofs.Pattern.{Lists, look, pattern-column, pattern_once, shape_pattern, pattern_alike}

-- ---- at most one answer

module _ (F : Ops) (m : ℕ) (T : Table) (C : ℕ) where
  pub found_once : {ps : List ℕ} {x y : ℕ → ℕ} → IsFound F m T C ps x → IsFound F m T C ps y → (c : ℕ) → 1 ≤ c → c ≤ C → x c ≡ y c
  found_once {ps} {y = y} h g c a b =
      let none : (c : ℕ) → 1 ≤ c → c ≤ C → Passed ps c → y c % F.q ≡ 0 = λ c a b out. rw (g.zeros c a b out) (zero-mod F.q) in
      sym (h.only y g.solves none c a b) ∙ g.only y g.solves none c a b

  pub found_not_short : {ps qs : List ℕ} {x : ℕ → ℕ} → IsFound F m T C ps x → IsShort F m T C qs → ⊥
  found_not_short h g = omega (arith, ap length (pattern_once F m T h.pattern g.pattern), h.full, g.low)

  -- at most one answer is true of a table, with at most one pattern and one solution
  pub wide_once : (a b : WideAnswer) (ps qs x y : List ℕ) → WideMeans F m T C a ps x → WideLeft C a x → WideMeans F m T C b qs y → WideLeft C b y
      → (a ≡ b) × (ps ≡ qs) × (x ≡ y)
  wide_once found found ps qs x y h lx g ly =
      let e : ps ≡ qs = pattern_once F m T h.pattern g.pattern in
      let at = found_once (rw e at h) g in
      (refl, e, ext_get_or 0 x y (lx ∙ sym ly) (λ i l. rw (sub-one (suc i)) at (at (suc i) (omega arith) (omega arith))))
  wide_once found short ps qs x y h lx g ly = absurd (found_not_short h g)
  wide_once short found ps qs x y h lx g ly = absurd (found_not_short g h)
  wide_once short short ps qs x y h lx g ly = (refl, pattern_once F m T h.pattern g.pattern, lx ∙ sym ly)

-- ---- only the values in the rows and columns matter

module _ (F : Ops) (L : Field F) (m C : ℕ) {T U : Table} (e : Alike m (C + 1) T U) where
  pub found_alike : {ps : List ℕ} {x : ℕ → ℕ} → IsFound F m T C ps x → IsFound F m U C ps x
  found_alike {x = x} h =
      record {
        pattern = pattern_alike F L m (C + 1) e (omega arith) h.pattern;
        full = h.full;
        solves = combines_alike F L m (C + 1) e (C + 1) (omega arith) (omega arith) x h.solves;
        zeros = h.zeros;
        only = λ y g. h.only y (combines_alike F L m (C + 1) (alike_back m (C + 1) e) (C + 1) (omega arith) (omega arith) y g);
      }

  pub short_alike : {ps : List ℕ} → IsShort F m T C ps → IsShort F m U C ps
  short_alike h = record { pattern = pattern_alike F L m (C + 1) e (omega arith) h.pattern; low = h.low }

  pub wide_alike : (a : WideAnswer) (ps x : List ℕ) → WideMeans F m T C a ps x → WideMeans F m U C a ps x
  wide_alike found ps x h = found_alike h
  wide_alike short ps x h = short_alike h

-- ---- from elimination

module _ (F : Ops) (L : Field F) (m C : ℕ) {T : Table} where
  -- with a pivot in every row, a solution that is 0 outside the pivots is the single one
  pub found_by_lem : {ps : List ℕ} {x : ℕ → ℕ} → Small F T → IsPattern F m T C ps → length ps ≡ m → WideSolves F m T C x
      → ((c : ℕ) → 1 ≤ c → c ≤ C → Passed ps c → x c ≡ 0) → ((c : ℕ) → 1 ≤ c → c ≤ C → x c < F.q) → IsFound F m T C ps x
  found_by_lem {ps} {x} small h full solves zeros lt =
      record {
        pattern = h;
        full = full;
        solves = solves;
        zeros = zeros;
        only = λ y g none c a b.
            same F L m T small C y x (λ r k l. adds F m T (omega arith) g r k l ∙ sym (adds F m T (omega arith) solves r k l))
            (λ c k l. elim (pattern-column F m T h c k l) [
              | chosen _ _ _ _ apart ↦ inr apart
              | passed out _ _ ↦ inl (none c k l out ∙ sym (rw (zeros c k l out) (zero-mod F.q)))
            ])
            c a b
            ∙ mod-eq_of_lt (lt c a b);
      }

  module _ {U : Table} {ps : List ℕ} {p : ℕ → ℕ} where
    -- every row has its pivot, and x has the unknowns that are opened
    pub found_with : Small F T → Lists ps p m → Shape F L m (C + 1) T p m C U → {x : ℕ → ℕ}
        → ((c : ℕ) → 1 ≤ c → c ≤ C → x c ≡ opened F p U m (λ r. U r (C + 1)) c) → IsFound F m T C ps x
    found_with small is h {x} e =
        found_by_lem small (shape_pattern F L m (C + 1) (omega arith) is h) is.count (combines F m T (omega arith) solves)
        (λ c a b out. e c a b ∙ opened-zero F p U m _ c (λ i x y g. let n = is.count in out i x (omega arith) (is.at i x y ∙ sym g)))
        (λ c a b. rw (e c a b) (opened-lt F p L U m _ (λ r. h.small r (C + 1)) c))
      where
        solves : Adds F m T C x
        solves r k l =
            let b : ℕ → ℕ = λ r. U r (C + 1) in
            combination_ext F L C (T r) (T r) x (opened F p U m b) (λ c _ _. refl) e
            ∙ h.back C (omega arith) _
            (λ i x y.
            opened-solves F L m (C + 1) p U h.form b (λ r. h.small r (C + 1)) (λ r x y. absurd (omega arith)) i x y ∙ ap (U i) (add-one C))
            r k l

    -- the columns have run out, and a row is left
    pub short_with : {w k : ℕ} → C ≤ w → k < m → Lists ps p k → Shape F L m w T p k C U → IsShort F m T C ps
    short_with {w} l low is h = record { pattern = shape_pattern F L m w l is h; low = let n = is.count in omega arith }

module _ (F : Ops) (m C : ℕ) where
  -- x has the unknowns that are opened, if it has them at the pivots and is 0 elsewhere
  pub opened_filled : {ps : List ℕ} {p : ℕ → ℕ} → Lists ps p m → (U : Table) (b x : ℕ → ℕ)
      → ((i : ℕ) → 1 ≤ i → i ≤ m → x (p i) ≡ opened F p U m b (p i)) → ((c : ℕ) → 1 ≤ c → c ≤ C → Passed ps c → x c ≡ 0)
      → (c : ℕ) → 1 ≤ c → c ≤ C → x c ≡ opened F p U m b c
  opened_filled {p = p} is U b x at zeros c k l = elim (look p c m) [
    | inl g ↦ rw g.3 at (at g.0 g.1 g.2)
    | inr out ↦
        zeros c k l (λ i x y e. let n = is.count in out i x (omega arith) (sym (is.at i x (omega arith)) ∙ e))
        ∙ sym (opened-zero F p U m b c (λ i x y e. out i x y (sym e)))
  ]
