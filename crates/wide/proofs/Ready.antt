-- What a pass means: the facts that the work of each wide call asks for, from the checks of its order.
-- Assumes nothing.
use mathlib.Core.Bool.{true, false}
use mathlib.Core.List.{List, [], ◌∷◌}
use mathlib.Core.Path.{◌≡◌, sym, ◌∙◌}
use Prim.Native.Nat.{ℕ, ◌+◌, ◌≤◌}
use native.Mathlib.Decide.{ℕ_discrete}
use native.Mathlib.Omega.{arith}
use lib.Dec.{eqb}
use lib.ListN.{length}
use borrow.Author.Tests.{not-false, eq-eqb, ne_eqb}
use Rattle.field.specs.Field.{field_of}
use Rattle.sharing.specs.Bounds.{most_rows}
use Rattle.sharing.specs.Rules.{sum, blinded_value}
use Rattle.sharing.specs.Lists.{Below}
use Rattle.table.specs.Layout.{Inside, entry}
use Rattle.table.specs.Costs.{scale_nonzero}
use Rattle.table.specs.Values.{value}
use Rattle.table.proofs.Values.{pivot_zero, zero_pivot_lem}
use Rattle.course.specs.declared.Step.{Step}
use Rattle.course.specs.declared.Step.TheVariants.{Scale}
use Rattle.course.specs.StepList.{cost_in}
use Rattle.pattern.specs.declared.WideOrder.{WideOrder}
use Rattle.pattern.specs.declared.WidePlace.TheVariants.{At}
use Rattle.pattern.specs.declared.WideProgress.{WideProgress}
use Rattle.pattern.specs.Pivots.{listed}
use Rattle.pattern.specs.PatternList.{Sizes, cost_of, nonzero_cost, wanted}
use Rattle.pattern.specs.Next.{kept, stands, placed, counted}
use Rattle.pattern.proofs.Placed.{Places, placed_at}
use Rattle.course.proofs.Within.{both}
use Rattle.verdict.specs.Told.{passed, refuse, ◌or◌}
use Rattle.verdict.specs.Refusals.{differs, no2, no3, no4, no5, no6, no9, no21, buffers, exactly}
use Rattle.verdict.proofs.Told.{left, right, not_then}
use Rattle.verdict.proofs.Passes.{two-says, three-says, twenty_one_says, same, six_says, nine_says, Buffers, buffered, Exactly, exactly-says, AtLeast, at_least_says}
use Rattle.wide.specs.WideRefusals.{no1, sizes, whole_table, table_rows, solve_order, cost_at, ended, no10, no19, no11, no20, no12, standing, wanted_order, placing, step_order}

-- 1, 2, 3 and 21 passed
pub sized : (o : WideOrder) → sizes o ≡ passed → Sizes o
unfolding sizes no1
sized o e =
    let a = refuse 1 (differs o.field 16) (o.field ∷ []) in
    let b = no2 o.shares in
    let c = no3 o.rows in
    let abc = left (a or b or c) (no21 o.rows o.columns) e in
    let ab = left (a or b) c abc in
    let n = two-says o.shares (right a b ab) in
    let m = three-says o.rows (right (a or b) c abc) in
    let w = twenty_one_says o.rows o.columns (right (a or b or c) (no21 o.rows o.columns) e) in
    record {
      field = same 1 (o.field ∷ []) (left a b ab);
      two = n.0;
      four = n.1;
      some = m.0;
      most = m.1;
      wide = w.0;
      widest = w.1;
    }

-- Solve's checks passed
pub record Solvable (o : WideOrder) (t : List ℕ) (solution mask : ℕ) (nonzero : List ℕ) : Type 0 where
  pub sizes : Sizes o
  pub lent : Buffers o.field (whole_table o) t o.columns solution
  pub tapes : AtLeast o.field (wanted o).mask (wanted o).nonzero mask nonzero

pub solvable : (o : WideOrder) (t : List ℕ) (solution mask : ℕ) (nonzero : List ℕ) → solve_order o t solution mask nonzero ≡ passed
    → Solvable o t solution mask nonzero
unfolding solve_order
solvable o t solution mask nonzero e =
    let a = buffers o.field (table_rows o) (whole_table o) t o.columns solution in
    let rest = right (sizes o) _ e in
    record {
      sizes = sized o (left (sizes o) _ e);
      lent = buffered _ _ _ _ _ (table_rows o) (left a _ rest);
      tapes = at_least_says _ _ _ _ _ (right a _ rest);
    }

-- 10, 19 and 11 passed
pub record Standing (p : WideProgress) : Type 0 where
  pub listed : placed p ≡ true
  pub matched : counted p ≡ true
  pub going : ended p.place ≡ false

pub standing-says : (p : WideProgress) → standing p ≡ passed → Standing p
unfolding standing no10 no11 no19
standing-says p e =
    let a = no10 p in
    let rest : no19 p or no11 p.place ≡ passed = right a _ e in
    record {
      listed = not-false _ (not_then _ _ (left a _ e));
      matched = not-false _ (not_then _ _ (left (no19 p) (no11 p.place) rest));
      going = not_then _ _ (right (no19 p) (no11 p.place) rest);
    }

pub wanting : (p : WideProgress) → wanted_order p ≡ passed → Sizes p.order × Standing p
unfolding wanted_order
wanting p e = (sized p.order (left (sizes p.order) _ e), standing-says p (right (sizes p.order) _ e))

-- the two tests of 10
pub kept_and_stands : (p : WideProgress) → placed p ≡ true → (kept p.order p.pivots ≡ true) × (stands p.order (listed p.pivots) p.place ≡ true)
unfolding placed
kept_and_stands p h = both (kept p.order p.pivots) (stands p.order (listed p.pivots) p.place) h

-- where the step of a record's place works
pub works_at : (p : WideProgress) (s : Step) → Sizes p.order → length p.pivots.columns ≡ most_rows → placed p ≡ true → p.place ≡ At s
    → Places p.order (listed p.pivots) s
works_at p s z slots h at = let t = kept_and_stands p h in placed_at p.order z p.pivots slots t.0 s (rw at at t.1)

-- 4, 5, 10, 19 and 11 passed
pub record Placed (p : WideProgress) (table solution : ℕ) : Type 0 where
  pub whole : table ≡ whole_table p.order
  pub room : solution ≡ p.order.columns
  pub stood : Standing p

pub placing-says : (p : WideProgress) (table solution : ℕ) → placing p table solution ≡ passed → Placed p table solution
unfolding placing no4 no5
placing-says p table solution e =
    let a = no4 (whole_table p.order) table in
    let b = no5 p.order.columns solution in
    let two : a or b ≡ passed = left (a or b) (standing p) e in
    record { whole = same 4 _ (left a b two); room = same 5 _ (right a b two); stood = standing-says p (right (a or b) (standing p) e) }

-- Step's checks passed
pub record Going (p : WideProgress) (t x : List ℕ) (mask : ℕ) (nonzero : List ℕ) : Type 0 where
  pub sizes : Sizes p.order
  pub at : Placed p (length t) (length x)
  pub elements : Below (field_of p.order.field).q t
  pub lent : Exactly p.order.field (cost_at p.order p.place).mask (cost_at p.order p.place).nonzero mask nonzero
  pub lifts : no20 p.order p.place x ≡ passed

pub going : (p : WideProgress) (t x : List ℕ) (mask : ℕ) (nonzero : List ℕ) → step_order p t x mask nonzero ≡ passed → Going p t x mask nonzero
unfolding step_order
going p t x mask nonzero e =
    let o = p.order in
    let d = cost_at o p.place in
    let a = placing p (length t) (length x) in
    let b = no6 o.field (table_rows o) t in
    let c = exactly o.field d.mask d.nonzero mask nonzero in
    let f = no20 o p.place x in
    let g = no12 o (listed p.pivots) p.place t in
    let late : a or (b or (c or (f or g))) ≡ passed = right (sizes o) _ e in
    let last : b or (c or (f or g)) ≡ passed = right a _ late in
    let tapes : c or (f or g) ≡ passed = right b _ last in
    record {
      sizes = sized o (left (sizes o) _ e);
      at = placing-says p (length t) (length x) (left a _ late);
      elements = six_says o.field (table_rows o) t (left b _ last);
      lent = exactly-says _ _ _ _ _ (left c _ tapes);
      lifts = left f g (right c _ tapes);
    }

both_zero : (a b : ℕ) → (a ≡ 0 → b ≡ 0) → (b ≡ 0 → a ≡ 0) → eqb a 0 ≡ eqb b 0
both_zero a b there back = elim (ℕ_discrete a 0) [
  | yes e ↦ eq-eqb a 0 e ∙ sym (eq-eqb b 0 (there e))
  | no n ↦ ne_eqb a 0 n ∙ sym (ne_eqb b 0 (λ e. n (back e)))
]

-- what an Inversion opens tells whether the pivot of a Scale is 0
pub pivot_told : (o : WideOrder) (r j : ℕ) (t mask nonzero : List ℕ) → Inside o.rows (o.columns + 1) r j → length t ≡ whole_table o
    → nonzero_cost o (Scale j) ≤ length nonzero → no9 o.field nonzero ≡ passed
    → eqb (blinded_value (field_of o.field) nonzero mask (entry o.shares (o.columns + 1) r j t)) 0
    ≡ eqb (sum (field_of o.field) (entry o.shares (o.columns + 1) r j t)) 0
unfolding value cost_of cost_in scale_nonzero
pivot_told o r j t mask nonzero P whole long nines =
    both_zero _ _
    (zero_pivot_lem o.field o.shares o.rows (o.columns + 1) t whole P nonzero mask (λ k h. nine_says o.field nonzero nines k (omega arith)))
    (pivot_zero o.field o.shares o.rows (o.columns + 1) t whole r j nonzero mask)
