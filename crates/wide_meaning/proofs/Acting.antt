-- A step on shares: what holds of the values and the unknowns at its place holds of those that it leaves, at the next place, whatever the shares and
-- the draws are.
-- Assumes nothing.
use mathlib.Core.List.{List}
use mathlib.Core.Path.{◌≡◌, ◌∙◌}
use Prim.Native.Nat.{ℕ, ◌+◌, ◌-◌, ◌<◌, ◌≤◌}
use native.Mathlib.Omega.{arith}
use lib.ListN.{length, get_or}
use lib.Seq.{get_or-set_same, get_or-set_other}
use Rattle.field.specs.Field.{Ops, Field, field_of}
use Rattle.field.proofs.Fields.{field_of_lem}
use Rattle.sharing.specs.Rules.{draw_at}
use Rattle.sharing.proofs.Sums.{sum_lt}
use Rattle.table.specs.Costs.{scale_nonzero}
use Rattle.table.specs.Layout.{table_bytes, Inside}
use Rattle.table.specs.Values.{value}
use Rattle.algebra.specs.Linear.{Table}
use Rattle.algebra.proofs.Outcome.{Small}
use Rattle.course.specs.declared.Step.{Step}
use Rattle.course.specs.declared.Step.TheVariants.{Mix, Check, Scale, Clear, Open, Lift}
use Rattle.course.specs.StepList.{column_of, cost_in, revealed_by}
use Rattle.walk.specs.Act.{Held, step_opens, step_leaves}
use Rattle.walk.proofs.Acted.{inside}
use Rattle.pattern.specs.declared.WideOrder.{WideOrder}
use Rattle.pattern.specs.declared.WidePlace.{WidePlace}
use Rattle.pattern.specs.declared.WidePlace.TheVariants.{At}
use Rattle.pattern.specs.declared.WideProgress.{WideProgress}
use Rattle.pattern.specs.Pivots.{row_of, listed}
use Rattle.pattern.specs.PatternList.{Sizes, cost_of, nonzero_cost}
use Rattle.pattern.specs.Next.{following}
use Rattle.pattern.proofs.Standing.{found_after}
use Rattle.wide_walk.specs.WideWalk.{opened, acted}
use Rattle.pattern.proofs.Moving.{Standing, few_pivots, stood_at, places-at}
use Rattle.wide_walk.proofs.Walked.{other_row}
use Rattle.meaning.proofs.Link.{mix_link, check_link, scale_link, clear_link, opens_link, lift_link}
use Rattle.wide_meaning.specs.WideMeaning.{value_of}
use Rattle.wide_meaning.proofs.Holding.{Holds}
use Rattle.wide_meaning.proofs.Columns.{mixed, checked, scaled, cleared}
use Rattle.wide_meaning.proofs.Unknowns as U

-- a value is an element
pub values_small : (o : WideOrder) (t : List ℕ) → Small (field_of o.field) (value_of o t)
unfolding value
values_small o t r c = sum_lt (field_of o.field) (field_of_lem o.field).ring _

-- the unknowns in a solution
abbrev pub unknowns : List ℕ → ℕ → ℕ
unknowns x c = get_or x (c - 1) 0

-- what holds at a place, by the pivots found, of the values and the unknowns in what is held. T has the values at the start
abbrev pub HoldsOf : WideOrder → Table → WidePlace → List ℕ → Held → Type 0
HoldsOf o T p ps h = Holds o (field_of o.field) (field_of_lem o.field) T p ps (value_of o h.table) (unknowns h.solution)

module _ (o : WideOrder) (z : Sizes o) (T : Table) where
  module _ {p : WideProgress} (g : Standing o p) (h : Held) (lt : length h.table ≡ table_bytes o.shares o.rows (o.columns + 1))
      (lx : length h.solution ≡ o.columns) (ds nz : List ℕ) where
    abbrev f : ℕ
    f = o.field

    abbrev n : ℕ
    n = o.shares

    abbrev m : ℕ
    m = o.rows

    abbrev w : ℕ
    w = o.columns + 1

    abbrev ps : List ℕ
    ps = listed p.pivots

    abbrev F : Ops
    F = field_of o.field

    abbrev L : Field F
    L = field_of_lem o.field

    some : 0 < n
    some = omega (arith, z.two)

    -- the entry that a step is about
    at_work : (s : Step) → p.place ≡ At s → Inside m w (row_of ps (column_of s)) (column_of s)
    at_work s e = let c = places-at o z s e g in inside (c.row_low, c.row_high) c.column_low (omega (arith, c.column_high))

    pub acts : (s : Step) → p.place ≡ At s → ((k : ℕ) → k < nonzero_cost o s → draw_at (field_of f) nz k ≡ 0 → ⊥) → HoldsOf o T (At s) ps h
        → HoldsOf o T (following m o.columns (found_after s (opened o ps s ds h) ps) s (opened o ps s ds h)) (found_after s (opened o ps s ds h) ps)
        (acted o ps s ds nz h)
    unfolding acted opened step_leaves step_opens revealed_by cost_of cost_in scale_nonzero found_after
    acts (Mix j k) e d a =
        let here = at_work (Mix j k) e in
        mixed o F L T z.some ps g.kept.rise (few_pivots o z g) j k 0 (stood_at o z (Mix j k) e g) (values_small o _)
        (mix_link f n m w some h.table lt here (inside (other_row _ _ (Mix j k) (places-at o z (Mix j k) e g).other) here.column_low here.column_high) ds) a
    acts (Check j) e d a =
        checked o F L T z.some ps g.kept.rise (few_pivots o z g) j _ (stood_at o z (Check j) e g)
        (check_link f n m w some h.table lt (at_work (Check j) e) ds) a
    acts (Scale j) e d a =
        scaled o F L T z.some ps g.kept.rise (few_pivots o z g) (stood_at o z (Scale j) e g) 0 (values_small o _)
        (scale_link f n m w some h.table lt (at_work (Scale j) e) nz ds d) a
    acts (Clear j k) e d a =
        let here = at_work (Clear j k) e in
        let s = stood_at o z (Clear j k) e g in
        cleared o F L T z.some ps g.kept.rise (few_pivots o z g) (s.0, s.1) k 0 s.2 s.3 (values_small o _)
        (clear_link f n m w some h.table lt here (inside (other_row _ _ (Clear j k) (places-at o z (Clear j k) e g).other) here.column_low here.column_high) ds) a
    acts (Open j) e d a =
        let c : j ≤ o.columns = (places-at o z (Open j) e g).column_high in
        let low : 1 ≤ j = (places-at o z (Open j) e g).column_low in
        let x : ℕ = opened o ps (Open j) ds h in
        U.opened o F L T ps g.kept.rise j x (stood_at o z (Open j) e g)
        (get_or-set_same h.solution (j - 1) x 0 (omega arith) ∙ opens_link f n m w some h.table lt (at_work (Open j) e) ds)
        (λ i b ne. get_or-set_other h.solution (j - 1) (i - 1) x 0 (omega arith)) a
    acts (Lift j) e d a =
        U.lifted o F L T ps g.kept.rise j 0 (stood_at o z (Lift j) e g)
        (lift_link f n m w some h.table lt (at_work (Lift j) e) (get_or h.solution (j - 1) 0)) a
