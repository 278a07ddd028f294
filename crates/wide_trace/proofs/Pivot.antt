-- Why refusals 12 and 20 are not met in a wide run. A place comes to be Scale(j) only by a Check(j) that opened 0, and that says of the very table
-- that is left that the pivot's value is not 0. And it comes to be Lift(j) only by an Open(j) that has just written an element.
-- Assumes nothing.
use mathlib.Core.Bool.{Bool, true, false}
use mathlib.Core.List.{List, [], ◌∷◌, ◌++◌}
use mathlib.Core.Path.{◌≡◌, refl, ◌∙◌}
use Prim.Native.Nat.{ℕ, ◌+◌, ◌-◌, ◌≤◌, ◌<◌}
use native.Mathlib.Decide.{ℕ_discrete}
use native.Mathlib.Nat.{le_refl}
use native.Mathlib.Omega.{arith}
use lib.Dec.{eqb, leb, ltb}
use lib.ListN.{length, get_or, set}
use lib.Seq.{get_or-set_same}
use borrow.Author.Tests.{eq-eqb, ne_eqb}
use Rattle.field.specs.Field.{field_of, pick}
use Rattle.sharing.specs.Rules.{sum}
use Rattle.flag.specs.Flag.{flag_of}
use Rattle.table.specs.Layout.{entry}
use Rattle.table.specs.Values.{value}
use Rattle.table.proofs.Values.{check-value}
use Rattle.course.specs.declared.Step.{Step}
use Rattle.course.specs.declared.Step.TheVariants.{Mix, Check, Scale, Clear, Open, Lift}
use Rattle.course.specs.StepList.{revealed_by}
use Rattle.course.proofs.Along.{either}
use Rattle.walk.specs.Act.{Held, step_opens, step_leaves, written}
use Rattle.walk.proofs.Acted.{inside}
use Rattle.pattern.specs.declared.WideOrder.{WideOrder}
use Rattle.pattern.specs.declared.WidePlace.{WidePlace}
use Rattle.pattern.specs.declared.WidePlace.TheVariants.{At, Short}
use Rattle.pattern.specs.Pivots.{before, row_of, last}
use Rattle.pattern.specs.Next.{next_column, following}
use Rattle.pattern.proofs.Ascending.{before-with}
use Rattle.pattern.proofs.Standing.{found_after}
use Rattle.pattern.proofs.Placed.{Places}
use Rattle.wide_walk.specs.WideWalk.{opened, acted}
use Rattle.verdict.specs.Told.{passed}
use Rattle.verdict.proofs.Passes.{unmet}
use Rattle.wide.specs.WideRefusals.{whole_table, no20, scale_refused, no12}
use Rattle.solver.specs.Refusals.{lift_refused}
use Rattle.trace.proofs.Pivot.{lift_element, element}

-- there is a pivot for Scale
abbrev pub Firm : WideOrder → List ℕ → List ℕ → WidePlace → Type 0
Firm o ps t p = no12 o ps p t ≡ passed

-- a Lift reads an element
abbrev pub Fair : WideOrder → List ℕ → WidePlace → Type 0
Fair o x p = no20 o p x ≡ passed

-- a column begins with neither
module _ (o : WideOrder) (ps : List ℕ) (j : ℕ) where
  by_next : (P : WidePlace → Type 0) → P (At (Open (last ps))) → P Short → P (At (Mix j (length ps + 2))) → P (At (Check j)) → P (next_column o.rows o.columns ps j)
  unfolding next_column
  by_next P a b c d = either P (leb o.rows (length ps)) a (either P (ltb o.columns j) b (either P (ltb (length ps + 1) o.rows) c d))

  pub firm_first : (t : List ℕ) → Firm o ps t (next_column o.rows o.columns ps j)
  unfolding no12 scale_refused
  firm_first t = by_next (Firm o ps t) refl refl refl refl

  pub fair_first : (x : List ℕ) → Fair o x (next_column o.rows o.columns ps j)
  unfolding no20 lift_refused
  fair_first x = by_next (Fair o x) refl refl refl refl

-- what Check(j) opened where it was not 1
checked : (v : ℕ) → (flag_of v ≡ 1 → ⊥) → eqb v 0 ≡ false
unfolding flag_of
checked v = by (eqb v 0)
  where
    by : (t : Bool) → (pick {A = ℕ} t 1 0 ≡ 1 → ⊥) → t ≡ false
    by true n = absurd (n refl)
    by false n = refl

-- a step on row r, at a place of the pivots ps
module _ (o : WideOrder) (some : 0 < o.shares) (ps : List ℕ) (ds nz : List ℕ) (h : Held) where
  abbrev after : Step → List ℕ
  after s = found_after s (opened o ps s ds h) ps

  abbrev next : Step → WidePlace
  next s = following o.rows o.columns (after s) s (opened o ps s ds h)

  row_kept : (j : ℕ) → row_of (ps ++ (j ∷ [])) j ≡ row_of ps j
  unfolding row_of
  row_kept j = rw (before-with ps j j (le_refl j))

  pivot_there : length h.table ≡ whole_table o → (j : ℕ) → Places o ps (Check j) → (opened o ps (Check j) ds h ≡ 1 → ⊥)
      → eqb (sum (field_of o.field) (entry o.shares (o.columns + 1) (row_of ps j) j (acted o ps (Check j) ds nz h).table)) 0 ≡ false
  unfolding opened step_opens revealed_by acted step_leaves value
  pivot_there whole j w n =
      checked _
      (λ e. n (check-value o.field o.shares o.rows (o.columns + 1) h.table whole some
      (inside (w.row_low, w.row_high) w.column_low (omega (arith, w.column_high))) ds ∙ e))

  pub firm_after : length h.table ≡ whole_table o → (s : Step) → Places o ps s → Firm o (after s) (acted o ps s ds nz h).table (next s)
  unfolding following found_after no12 scale_refused
  firm_after whole (Mix j k) w = either (Firm o ps _) (ltb k o.rows) refl refl
  firm_after whole (Check j) w = elim (ℕ_discrete (opened o ps (Check j) ds h) 1) [
    | yes e ↦ rw (eq-eqb _ 1 e) (firm_first o ps (j + 1) _)
    | no n ↦ rw (ne_eqb _ 1 n) (rw (row_kept j) (unmet 12 _ (pivot_there whole j w n)))
  ]
  firm_after whole (Scale j) w = either (Firm o ps _) (ltb (length ps) o.rows) refl (firm_first o ps (j + 1) _)
  firm_after whole (Clear j k) w = either (Firm o ps _) (ltb k o.rows) refl (firm_first o ps (j + 1) _)
  firm_after whole (Open j) w = either (Firm o ps _) (eqb (before ps j) 0) refl refl
  firm_after whole (Lift j) w = refl

  abbrev left : Step → List ℕ
  left s = written (revealed_by s) (opened o ps s ds h) h.solution

  pub fair_after : length h.solution ≡ o.columns → (s : Step) → Places o ps s → Fair o (left s) (next s)
  unfolding following found_after revealed_by no20 lift_refused
  fair_after long (Mix j k) w = either (Fair o (left (Mix j k))) (ltb k o.rows) refl refl
  fair_after long (Check j) w = either (Fair o (left (Check j))) (eqb (opened o ps (Check j) ds h) 1) (fair_first o _ (j + 1) _) refl
  fair_after long (Scale j) w = either (Fair o (left (Scale j))) (ltb (length ps) o.rows) refl (fair_first o ps (j + 1) _)
  fair_after long (Clear j k) w = either (Fair o (left (Clear j k))) (ltb k o.rows) refl (fair_first o ps (j + 1) _)
  fair_after long (Open j) w =
      let x : ℕ = opened o ps (Open j) ds h in
      let low : 1 ≤ j = w.column_low in
      let byte : get_or (set h.solution (j - 1) x) (j - 1) 0 ≡ x = get_or-set_same h.solution (j - 1) x 0 (omega (arith, w.column_high)) in
      let small : x < (field_of o.field).q = unfold opened in element o.field o.shares (o.columns + 1) (row_of ps j) j ds h in
      either (Fair o (left (Open j))) (eqb (before ps j) 0) refl (lift_element o.field j (set h.solution (j - 1) x) (rw byte small))
  fair_after long (Lift j) w = refl
