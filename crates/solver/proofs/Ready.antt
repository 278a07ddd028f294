-- What a pass means: the facts that the work of each call asks for, from the checks of its order.
-- Assumes nothing.
use mathlib.Core.Bool.{Bool, true, false, not, ◌||◌, false≢true}
use mathlib.Core.List.{List}
use mathlib.Core.Logic.{◌⊎◌, inl, inr}
use mathlib.Core.Path.{◌≡◌, refl, sym, ◌∙◌}
use Prim.Native.Nat.{ℕ, ◌+◌, ◌-◌, ◌*◌, ◌≤◌}
use native.Mathlib.Decide.{ℕ_discrete}
use native.Mathlib.Nat.{mul-le-mul}
use native.Mathlib.Omega.{arith}
use lib.Dec.{eqb, ltb}
use lib.ListN.{length}
use borrow.Author.Tests.{not-false, ltb-false, eq-eqb, ne_eqb}
use Rattle.field.specs.Field.{field_of}
use Rattle.sharing.specs.Rules.{blinded_value}
use Rattle.sharing.specs.Lists.{Below}
use Rattle.sharing.specs.Bounds.{most_rows, most_width, most_entries}
use Rattle.table.specs.Layout.{Inside, table_bytes, entry}
use Rattle.table.specs.Costs.{scale_nonzero}
use Rattle.table.specs.Values.{value}
use Rattle.table.proofs.Values.{pivot_zero, zero_pivot_lem}
use Rattle.course.specs.declared.Step.{Step}
use Rattle.course.specs.declared.Step.TheVariants.{Mix, Check, Scale, Clear, Open, Lift}
use Rattle.course.specs.declared.Place.{Place}
use Rattle.course.specs.declared.Place.TheVariants.{At, Stopped, Done}
use Rattle.course.specs.declared.Order.{Order}
use Rattle.course.specs.declared.Progress.{Progress}
use Rattle.course.specs.StepList.{Sizes, in_list, cost_of, cost_in, mask_cost, nonzero_cost, Pivot, full_mask, full_nonzero}
use Rattle.course.specs.Next.{order_of, counted}
use Rattle.course.specs.Code.Closed.{part_of, Stands, agrees}
use Rattle.course.proofs.Within.{within}
use Rattle.course.proofs.Closed.{mask_closed, nonzero_closed}
use Rattle.course.proofs.Moving.{counted_room}
use Rattle.walk.proofs.Acted.{pivot}
use Rattle.verdict.specs.Told.{Told, passed, ◌or◌}
use Rattle.verdict.specs.Refusals.{outside, no4, no5, no6, no7, no9, buffers}
use Rattle.solver.specs.Refusals.{placed, ended, entries, whole_table, table_rows, value_rows, deal_draws, cost_at, mask_at, nonzero_at, zero_pivot, no10, no11, lift_refused, no20, no12, no19, sizes, deal_order, gather_order, tapes, solve_order, standing, wanted_order, placing, lending, step_order}
use Rattle.verdict.proofs.Told.{left, right, not_then}
use Rattle.verdict.proofs.Passes.{numbered, same, enough, six_says, nine_says, Buffers, buffered, Exactly, exactly-says, AtLeast, at_least_says}

-- 1 to 3 passed
pub sized : (o : Order) → sizes o ≡ passed → Sizes o
sized o e =
    let z = numbered o.field o.shares o.size e in
    record { field = z.field; two = z.two; four = z.four; some = z.some; most = z.most }

-- the table is as long as its entries' sharings
whole-entries : (o : Order) → whole_table o ≡ entries o.size * o.shares
unfolding table_bytes entries
whole-entries o = refl

pub entries-small : (m : ℕ) → m ≤ most_rows → entries m ≤ most_entries
unfolding entries
entries-small m h = mul-le-mul {n₁ = m} {m₁ = m + 1} {n₂ = most_rows} {m₂ = most_width} h (omega arith)

pub sharing_small : (k n : ℕ) → k ≤ most_entries → n ≤ 4 → k * n ≤ most_entries * 4
sharing_small k n h g = mul-le-mul {n₁ = k} {m₁ = n} {n₂ = most_entries} {m₂ = 4} h g

-- Deal's checks passed
pub record Dealing (o : Order) (values : List ℕ) (target mask : ℕ) : Type 0 where
  pub sizes : Sizes o
  pub lent : Buffers o.field (entries o.size) values (whole_table o) target
  pub drawn : deal_draws o ≤ mask

pub dealing : (o : Order) (values : List ℕ) (target mask : ℕ) → deal_order o values target mask ≡ passed → Dealing o values target mask
unfolding deal_order no7
dealing o values target mask e =
    let a = buffers o.field (value_rows o) (entries o.size) values (whole_table o) target in
    let rest : a or no7 (deal_draws o) mask ≡ passed = right (sizes o) _ e in
    record {
      sizes = sized o (left (sizes o) _ e);
      lent = buffered _ _ _ _ _ (value_rows o) (left a _ rest);
      drawn = enough 7 _ (right a _ rest);
    }

-- Gather's checks passed
pub record Gathering (o : Order) (t : List ℕ) (target : ℕ) : Type 0 where
  pub sizes : Sizes o
  pub lent : Buffers o.field (whole_table o) t (entries o.size) target

pub gathering : (o : Order) (t : List ℕ) (target : ℕ) → gather_order o t target ≡ passed → Gathering o t target
unfolding gather_order
gathering o t target e = record {
  sizes = sized o (left (sizes o) _ e);
  lent = buffered _ _ _ _ _ (table_rows o) (right (sizes o) _ e);
}

-- Solve's checks passed
pub record Solvable (o : Order) (t : List ℕ) (solution mask : ℕ) (nonzero : List ℕ) : Type 0 where
  pub sizes : Sizes o
  pub lent : Buffers o.field (whole_table o) t o.size solution
  pub tapes : AtLeast o.field (full_mask o) (full_nonzero o) mask nonzero

pub solvable : (o : Order) (t : List ℕ) (solution mask : ℕ) (nonzero : List ℕ) → solve_order o t solution mask nonzero ≡ passed → Solvable o t solution mask nonzero
unfolding solve_order tapes
solvable o t solution mask nonzero e =
    let a = buffers o.field (table_rows o) (whole_table o) t o.size solution in
    let rest : a or tapes o mask nonzero ≡ passed = right (sizes o) _ e in
    record {
      sizes = sized o (left (sizes o) _ e);
      lent = buffered _ _ _ _ _ (table_rows o) (left a _ rest);
      tapes = at_least_says _ _ _ _ _ (right a _ rest);
    }

-- 4, 5, 10 and 11 passed
pub record Placed (o : Order) (place : Place) (table solution : ℕ) : Type 0 where
  pub whole : table ≡ whole_table o
  pub room : solution ≡ o.size
  pub listed : placed o.size place ≡ true
  pub going : ended place ≡ false

pub record Standing (p : Progress) : Type 0 where
  pub listed : placed p.size p.place ≡ true
  pub matched : counted p ≡ true
  pub going : ended p.place ≡ false

-- 10, 19 and 11 passed
pub standing-says : (p : Progress) → standing p ≡ passed → Standing p
unfolding standing no10 no11 no19
standing-says p e =
    let a = no10 p.size p.place in
    let rest : no19 p or no11 p.place ≡ passed = right a _ e in
    record {
      listed = not-false _ (not_then _ _ (left a _ e));
      matched = not-false _ (not_then _ _ (left (no19 p) (no11 p.place) rest));
      going = not_then _ _ (right (no19 p) (no11 p.place) rest);
    }

-- a place that passes 10 is one that a record may have
neither : (a b : Bool) → not (a || b) ≡ true → (a ≡ false) × (b ≡ false)
neither true b h = absurd (false≢true h)
neither false true h = absurd (false≢true h)
neither false false h = (refl, refl)

pub stands : (m : ℕ) (p : Place) → placed m p ≡ true → Stands m p
unfolding placed outside
stands m (At s) h = h
stands m (Stopped j) h = let n = neither (ltb j 1) (ltb m j) h in (ltb-false j 1 n.0, ltb-false m j n.1)
stands m Done h = tt

-- and the code's closed form tells whether its counters match
pub agrees_so : (p : Progress) → Sizes (order_of p) → placed p.size p.place ≡ true
    → agrees (order_of p) (part_of (p.size + 1) p.place) p.mask p.nonzero ≡ counted p
unfolding agrees counted
agrees_so p z h =
    let s = stands p.size p.place h in
    rw (mask_closed (order_of p) z p.place s, nonzero_closed (order_of p) p.place s)

-- Wanted's checks passed
pub wanting : (p : Progress) → wanted_order p ≡ passed → Sizes (order_of p) × Standing p
unfolding wanted_order
wanting p e = (sized (order_of p) (left (sizes (order_of p)) _ e), standing-says p (right (sizes (order_of p)) _ e))

stood : (p : Progress) (table solution : ℕ) → placing p table solution ≡ passed → Standing p
unfolding placing
stood p table solution e = standing-says p (right (no4 (whole_table (order_of p)) table or no5 p.size solution) (standing p) e)

pub placing-says : (p : Progress) (table solution : ℕ) → placing p table solution ≡ passed → Placed (order_of p) p.place table solution
unfolding placing no4 no5
placing-says p table solution e =
    let a = no4 (whole_table (order_of p)) table in
    let b = no5 p.size solution in
    let two : a or b ≡ passed = left (a or b) (standing p) e in
    let s = stood p table solution e in
    record {
      whole = same 4 _ (left a b two);
      room = same 5 _ (right a b two);
      listed = s.listed;
      going = s.going;
    }

-- 7, 14, 8, 15 and 9 passed
abbrev pub Supplied : Order → Place → ℕ → List ℕ → Type 0
Supplied o place mask nonzero = Exactly o.field (mask_at o place) (nonzero_at o place) mask nonzero

pub lending-says : (o : Order) (place : Place) (mask : ℕ) (nonzero : List ℕ) → lending o place mask nonzero ≡ passed → Supplied o place mask nonzero
unfolding lending
lending-says o place mask nonzero = exactly-says _ _ _ _ _

-- Step's checks passed
pub record Going (o : Order) (place : Place) (t : List ℕ) (solution mask : ℕ) (nonzero : List ℕ) : Type 0 where
  pub sizes : Sizes o
  pub at : Placed o place (length t) solution
  pub elements : Below (field_of o.field).q t
  pub lent : Supplied o place mask nonzero

module _ (p : Progress) (t x : List ℕ) (mask : ℕ) (nonzero : List ℕ) where
  abbrev after-lending : Told
  after-lending = no20 (order_of p) p.place x or no12 (order_of p) p.place t

  abbrev after-sizes : Told
  after-sizes = placing p (length t) (length x) or (no6 p.field (table_rows (order_of p)) t or (lending (order_of p) p.place mask nonzero or after-lending))

  -- its counters match then
  pub going_matched : step_order p t x mask nonzero ≡ passed → counted p ≡ true
  unfolding step_order
  going_matched e = (stood p (length t) (length x) (left (placing p (length t) (length x)) _ (right (sizes (order_of p)) after-sizes e))).matched

  -- and the byte that a Lift reads is an element
  pub going_lifts : step_order p t x mask nonzero ≡ passed → no20 (order_of p) p.place x ≡ passed
  unfolding step_order
  going_lifts e =
      left (no20 (order_of p) p.place x) (no12 (order_of p) p.place t)
      (right (lending (order_of p) p.place mask nonzero) after-lending
      (right (no6 p.field (table_rows (order_of p)) t) _ (right (placing p (length t) (length x)) _ (right (sizes (order_of p)) after-sizes e))))

pub going : (p : Progress) (t x : List ℕ) (mask : ℕ) (nonzero : List ℕ) → step_order p t x mask nonzero ≡ passed → Going (order_of p) p.place t (length x) mask nonzero
unfolding step_order
going p t x mask nonzero e =
    let o = order_of p in
    let place = p.place in
    let a = placing p (length t) (length x) in
    let b = no6 o.field (table_rows o) t in
    let c = lending o place mask nonzero in
    let d = no20 o place x or no12 o place t in
    let late : a or (b or (c or d)) ≡ passed = right (sizes o) _ e in
    let last : b or (c or d) ≡ passed = right a _ late in
    record {
      sizes = sized o (left (sizes o) _ e);
      at = placing-says p (length t) (length x) (left a _ late);
      elements = six_says o.field (table_rows o) t (left b _ last);
      lent = lending-says o place mask nonzero (left c _ (right b _ last));
    }

-- a place that is a step is one of the list
pub at-step : (o : Order) (place : Place) (s : Step) → place ≡ At s → placed o.size place ≡ true → in_list o.size s ≡ true
unfolding placed
at-step o place s e h = rw e at h

-- where a step call passed, its record can move on: its place is a step of the list, and its counters have room
pub next_ready : (p : Progress) (t x : List ℕ) (mask : ℕ) (nonzero : List ℕ) → step_order p t x mask nonzero ≡ passed → (s : Step) → p.place ≡ At s
    → Sizes (order_of p) × ((in_list p.size s ≡ true) × ((p.mask + mask_cost (order_of p) s ≤ 18446744073709551615) × (p.nonzero + nonzero_cost (order_of p) s ≤ 18446744073709551615)))
next_ready p t x mask nonzero v s e =
    let g = going p t x mask nonzero v in
    let i = at-step (order_of p) p.place s e g.at.listed in
    (g.sizes, (i, counted_room p s g.sizes e i (going_matched p t x mask nonzero v)))

both_zero : (a b : ℕ) → (a ≡ 0 → b ≡ 0) → (b ≡ 0 → a ≡ 0) → eqb a 0 ≡ eqb b 0
both_zero a b there back = elim (ℕ_discrete a 0) [
  | yes e ↦ eq-eqb a 0 e ∙ sym (eq-eqb b 0 (there e))
  | no n ↦ ne_eqb a 0 n ∙ sym (ne_eqb b 0 (λ e. n (back e)))
]

-- a place that is no Lift reads no byte of the solution
pub lift-or_not : (o : Order) (place : Place) (x : List ℕ) → ((j : ℕ) × (place ≡ At (Lift j))) ⊎ (no20 o place x ≡ passed)
unfolding no20 lift_refused
lift-or_not o (At (Mix j k)) x = inr refl
lift-or_not o (At (Check j)) x = inr refl
lift-or_not o (At (Scale j)) x = inr refl
lift-or_not o (At (Clear j k)) x = inr refl
lift-or_not o (At (Open j)) x = inr refl
lift-or_not o (At (Lift j)) x = inl (j, refl)
lift-or_not o (Stopped j) x = inr refl
lift-or_not o Done x = inr refl

-- the pivot's place of a Scale
pub pivot_cell : (o : Order) (j : ℕ) → in_list o.size (Scale j) ≡ true → Inside o.size (o.size + 1) j j
pivot_cell o j h = let w = within o.size (Scale j) h in pivot w.0 w.1

-- what an Inversion opens tells whether the pivot of a Scale is 0
pub pivot_told : (o : Order) (j : ℕ) (t mask nonzero : List ℕ) → in_list o.size (Scale j) ≡ true → length t ≡ whole_table o
    → nonzero_cost o (Scale j) ≤ length nonzero → no9 o.field nonzero ≡ passed
    → eqb (blinded_value (field_of o.field) nonzero mask (entry o.shares (o.size + 1) j j t)) 0 ≡ zero_pivot o (Pivot j) t
unfolding zero_pivot value cost_of cost_in scale_nonzero
pivot_told o j t mask nonzero listed whole long nines =
    both_zero _ _
    (zero_pivot_lem o.field o.shares o.size (o.size + 1) t whole (pivot_cell o j listed) nonzero mask (λ k h. nine_says o.field nonzero nines k (omega arith)))
    (pivot_zero o.field o.shares o.size (o.size + 1) t whole j j nonzero mask)

-- ---- what the work of each call asks for

pub deal_ready : {o : Order} {values : List ℕ} {target mask : ℕ} → Dealing o values target mask
    → ((2 ≤ o.shares) × (o.shares ≤ 4) × (length values ≤ most_entries))
    × ((target ≡ length values * o.shares) × (length values * (o.shares - 1) ≤ mask))
unfolding deal_draws
deal_ready {o} d = (
  (d.sizes.two, d.sizes.four, rw d.lent.whole (entries-small o.size d.sizes.most)),
  (rw d.lent.whole (d.lent.room ∙ whole-entries o), rw d.lent.whole d.drawn),
)

pub gather_ready : {o : Order} {t : List ℕ} {target : ℕ} → Gathering o t target
    → ((2 ≤ o.shares) × (o.shares ≤ 4) × (target ≤ most_entries)) × (length t ≡ target * o.shares)
gather_ready {o} d = (
  (d.sizes.two, d.sizes.four, rw d.lent.room (entries-small o.size d.sizes.most)),
  rw d.lent.room (d.lent.whole ∙ whole-entries o),
)

pub solve_ready : {o : Order} {t : List ℕ} {solution mask : ℕ} {nonzero : List ℕ} → Solvable o t solution mask nonzero
    → Sizes o × (((length t ≡ whole_table o) × (solution ≡ o.size)) × ((full_mask o ≤ mask) × (full_nonzero o ≤ length nonzero)))
solve_ready d = (d.sizes, ((d.lent.whole, d.lent.room), (d.tapes.masks, d.tapes.others)))

pub step_ready : {o : Order} {place : Place} {t : List ℕ} {solution mask : ℕ} {nonzero : List ℕ} (s : Step) → place ≡ At s
    → Going o place t solution mask nonzero
    → Sizes o × ((in_list o.size s ≡ true) × (((length t ≡ whole_table o) × (solution ≡ o.size)) × ((mask_cost o s ≤ mask) × (nonzero_cost o s ≤ length nonzero))))
unfolding cost_at
step_ready {o} {place} s e g =
    let m : mask_at o place ≡ mask_cost o s = rw e in
    let k : nonzero_at o place ≡ nonzero_cost o s = rw e in (
      g.sizes,
      (
        at-step o place s e g.at.listed,
        ((g.at.whole, g.at.room), (omega (arith, g.lent.masks, m), omega (arith, g.lent.others, k))),
      ),
    )
