-- Why refusals 12 and 20 are not met in a run. A place comes to be Scale(j) only by a Check(j) that opened 0, and that says of the very table that
-- is left that the pivot's value is not 0. And it comes to be Lift(j) only by an Open(j) that has just written an element.
-- Assumes nothing.
use mathlib.Core.Bool.{Bool, true, false}
use mathlib.Core.List.{List}
use mathlib.Core.Path.{◌≡◌, refl}
use Prim.Native.Nat.{ℕ, ◌+◌, ◌-◌, ◌<◌}
use native.Mathlib.Omega.{arith}
use lib.Dec.{eqb, ltb}
use lib.ListN.{length, get_or, set}
use lib.Seq.{get_or-set_same}
use borrow.Author.Tests.{lt-leb}
use Rattle.field.specs.Field.{field_of, pick}
use Rattle.field.proofs.Fields.{field_of_lem}
use Rattle.sharing.specs.Rules.{opening}
use Rattle.sharing.proofs.Sums.{sum_lt}
use Rattle.flag.specs.Flag.{flag_of}
use Rattle.table.specs.Steps.{unknown_at}
use Rattle.table.specs.Values.{value}
use Rattle.table.proofs.Values.{check-value}
use Rattle.course.specs.declared.Step.{Step}
use Rattle.course.specs.declared.Step.TheVariants.{Mix, Check, Scale, Clear, Open, Lift}
use Rattle.course.specs.declared.Place.{Place}
use Rattle.course.specs.declared.Place.TheVariants.{At, Stopped}
use Rattle.course.specs.declared.Order.{Order}
use Rattle.course.specs.StepList.{in_list, revealed_by}
use Rattle.course.specs.Next.{first_of, following}
use Rattle.course.proofs.Within.{within}
use Rattle.course.proofs.Along.{either}
use Rattle.walk.specs.Act.{Held, step_opens, step_leaves, opened, written, acted}
use Rattle.verdict.specs.Told.{passed}
use Rattle.verdict.specs.Refusals.{too_large}
use Rattle.verdict.proofs.Passes.{unmet}
use Rattle.solver.specs.Refusals.{whole_table, revealed_at, zero_pivot, lift_refused, no20}
use Rattle.trace.proofs.Own.{in_table}

-- there is a pivot for Scale
abbrev pub Firm : Order → List ℕ → Place → Type 0
Firm o t p = zero_pivot o (revealed_at p) t ≡ false

pub firm_first : (o : Order) (t : List ℕ) (j : ℕ) → Firm o t (first_of o.size j)
unfolding first_of revealed_by zero_pivot
firm_first o t j = either (Firm o t) (ltb j o.size) refl refl

checked : (o : Order) (t : List ℕ) (j : ℕ) (zero : Bool) → eqb (value (field_of o.field) o.shares (o.size + 1) t j j) 0 ≡ zero
    → Firm o t (pick (eqb (pick {A = ℕ} zero 1 0) 1) (Stopped j) (At (Scale j)))
unfolding revealed_by zero_pivot value
checked o t j true e = refl
checked o t j false e = e

module _ (o : Order) (some : 0 < o.shares) (ds nz : List ℕ) (h : Held) (whole : length h.table ≡ whole_table o) where
  pub firm_after : (s : Step) → in_list o.size s ≡ true → Firm o (acted o s ds nz h).table (following o.size s (opened o s ds h))
  unfolding following revealed_by zero_pivot opened acted step_opens step_leaves flag_of
  firm_after (Mix j k) i = either (Firm o (acted o (Mix j k) ds nz h).table) (ltb k o.size) refl refl
  firm_after (Check j) i =
      let w = within o.size (Check j) i in
      rw (check-value o.field o.shares o.size (o.size + 1) h.table whole some (in_table w.0 w.1 w.0 (omega arith)) ds)
      (checked o h.table j _ refl)
  firm_after (Scale j) i = either (Firm o (acted o (Scale j) ds nz h).table) (ltb j o.size) refl refl
  firm_after (Clear j k) i =
      either (Firm o (acted o (Clear j k) ds nz h).table) (ltb k o.size) refl (firm_first o (acted o (Clear j k) ds nz h).table (j + 1))
  firm_after (Open j) i = either (Firm o (acted o (Open j) ds nz h).table) (ltb 1 j) refl refl
  firm_after (Lift j) i = refl

-- a Lift reads an element
abbrev pub Fair : Order → List ℕ → Place → Type 0
Fair o x p = no20 o p x ≡ passed

pub lift_element : (f j : ℕ) (x : List ℕ) → get_or x (j - 1) 0 < (field_of f).q → lift_refused f (Lift j) x ≡ passed
unfolding lift_refused too_large
lift_element f j x l = unmet 20 _ (lt-leb (field_of f).q (get_or x (j - 1) 0) l)

pub lift_passes : (o : Order) (j : ℕ) (x : List ℕ) → get_or x (j - 1) 0 < (field_of o.field).q → Fair o x (At (Lift j))
unfolding no20
lift_passes o j x l = lift_element o.field j x l

-- what Open opens
pub element : (f n w r j : ℕ) (ds : List ℕ) (h : Held) → step_opens f n w r (Open j) ds h < (field_of f).q
unfolding step_opens revealed_by unknown_at opening
element f n w r j ds h = sum_lt (field_of f) (field_of_lem f).ring _

pub fair_first : (o : Order) (x : List ℕ) (j : ℕ) → Fair o x (first_of o.size j)
unfolding first_of no20 lift_refused
fair_first o x j = either (Fair o x) (ltb j o.size) refl refl

module _ (o : Order) (ds : List ℕ) (h : Held) (places : length h.solution ≡ o.size) where
  abbrev left : Step → List ℕ
  left s = written (revealed_by s) (opened o s ds h) h.solution

  opened_element : (j : ℕ) → opened o (Open j) ds h < (field_of o.field).q
  unfolding opened
  opened_element j = element o.field o.shares (o.size + 1) j j ds h

  pub fair_after : (s : Step) → in_list o.size s ≡ true → Fair o (left s) (following o.size s (opened o s ds h))
  unfolding following revealed_by no20 lift_refused
  fair_after (Mix j k) i = either (Fair o (left (Mix j k))) (ltb k o.size) refl refl
  fair_after (Check j) i = either (Fair o (left (Check j))) (eqb (opened o (Check j) ds h) 1) refl refl
  fair_after (Scale j) i = either (Fair o (left (Scale j))) (ltb j o.size) refl refl
  fair_after (Clear j k) i = either (Fair o (left (Clear j k))) (ltb k o.size) refl (fair_first o (left (Clear j k)) (j + 1))
  fair_after (Open j) i =
      let w = within o.size (Open j) i in
      let x = opened o (Open j) ds h in
      let byte : get_or (set h.solution (j - 1) x) (j - 1) 0 ≡ x = get_or-set_same h.solution (j - 1) x 0 (omega (arith, places, w.0)) in
      either (Fair o (left (Open j))) (ltb 1 j) (lift_passes o j (left (Open j)) (rw byte (opened_element j))) refl
  fair_after (Lift j) i = refl
