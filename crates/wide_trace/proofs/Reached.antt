-- What holds of a host however it was driven: its record is one that 10 and 19 pass, with the draws that it was lent, and the whole solve on tapes
-- with its draws, lent any first solution, comes by the same steps to the same record and table, and to the same unknowns as far as they are opened.
-- Assumes nothing.
use mathlib.Core.List.{List, [], ◌∷◌, ◌++◌}
use mathlib.Core.Logic.{⊎_elim}
use mathlib.Core.Path.{◌≡◌, refl, sym, ap, ◌∙◌, subst}
use Prim.Native.Nat.{ℕ, zero, suc, ◌+◌}
use native.Mathlib.Omega.{arith}
use lib.ListN.{length, drop, length-append, length-replicate}
use Rattle.field.specs.Field.{field_of}
use Rattle.sharing.specs.Lists.{SameDraws}
use Rattle.course.specs.declared.Step.{Step}
use Rattle.course.specs.StepList.{column_of}
use Rattle.walk.specs.Act.{held}
use Rattle.walk.proofs.Acted.{leaves_sized, leaves-places, leaves_below}
use Rattle.pattern.specs.declared.WideOrder.{WideOrder}
use Rattle.pattern.specs.declared.WidePlace.{WidePlace}
use Rattle.pattern.specs.declared.WidePlace.TheVariants.{At}
use Rattle.pattern.specs.Pivots.{row_of, ascends}
use Rattle.pattern.specs.PatternList.{Sizes, mask_cost, nonzero_cost}
use Rattle.pattern.specs.Next.{following, start_of, moved_on}
use Rattle.pattern.proofs.Standing.{Stood, found_after}
use Rattle.pattern.proofs.Placed.{Places}
use Rattle.pattern.proofs.Moving.{listed_found, Standing, steps_of, standing_start, stood_at, steps_after, standing-after, places-at}
use Rattle.wide_walk.specs.WideWalk.{Tally, opened, acted, spent, walk, begun}
use Rattle.wide_walk.proofs.Walked.{other_row}
use Rattle.wide_walk.proofs.Going.{tally}
use Rattle.trace.specs.Driving.{Beside, NoneZero, Begins, drive_by}
use Rattle.trace.proofs.Driving.{begins_front, begins_back, both_drawn}
use Rattle.wide_trace.specs.WideTrace.{Host, begin, lends, host_after, drive, order_in, pivots_in, opened_in, stepped, Refused, Accepted, Recorded, Admitted}
use Rattle.wide_trace.proofs.Call.{acted-written, each-call}
use Rattle.wide_trace.proofs.Own.{opened-own, table-own}
use Rattle.wide_trace.proofs.Pivot.{Firm, firm_first, firm_after, Fair, fair_first, fair_after}
use Rattle.wide_trace.proofs.Written.{unopened, Same, same_start, next-unopened, same_read, same_after}

-- what the whole solve has counted and holds where a host is, with a solution v of its own
abbrev pub tally_of : Host → List ℕ → Tally
tally_of h v = tally h.progress (held h.table v) h.steps

-- so far as the pivots are opened
abbrev pub SameIn : List ℕ → Host → List ℕ → Type 0
SameIn y h v = Same (pivots_in h) (unopened (pivots_in h) h.progress.place) y h.solution v

pub record Reached (o : WideOrder) (t y : List ℕ) (h : Host) : Type 0 where
  pub standing : Standing o h.progress
  pub steps : h.steps ≡ length (steps_of o h.progress)
  -- the record's counters are the draws lent
  pub recorded : Recorded h
  pub firm : Firm o (pivots_in h) h.table h.progress.place
  pub fair : Fair o h.solution h.progress.place
  pub long : length h.solution ≡ length y
  -- what a call asks of the table and the solution goes on holding
  pub admitted : Admitted o t y → Admitted o h.table h.solution
  pub drawn : NoneZero o.field h.nonzero
  pub solve : (x ms zs : List ℕ) → length x ≡ o.columns → Begins o.field h.mask ms → Begins o.field h.nonzero zs
      → (v : List ℕ) × (walk ms zs h.steps (begun o (held t x)) ≡ tally_of h v) × (length v ≡ o.columns) × SameIn y h v

start : (o : WideOrder) → Sizes o → (t y : List ℕ) → Reached o t y (begin o t y)
unfolding start_of walk
start o z t y =
    let first = standing_start o z in
    record {
      standing = unfold start_of in first.0;
      steps = sym (ap length first.1);
      recorded = record { mask = refl; nonzero = refl };
      firm = firm_first o [] 1 t;
      fair = fair_first o [] 1 y;
      long = refl;
      admitted = λ a. a;
      drawn = λ k l. absurd (omega arith);
      solve = λ x ms zs l d e. (_, refl, length-replicate (length x) 0 ∙ l, rw (next-unopened o.rows o.columns z.some [] (unfold ascends in refl) 1) (same_start [] y (length x)));
    }

-- a walk of some steps and then of more
pub walk-add : (ms zs : List ℕ) (b a : ℕ) (t : Tally) → walk ms zs (b + a) t ≡ walk ms zs b (walk ms zs a t)
unfolding walk
walk-add ms zs b zero t = let e : b + 0 ≡ b = omega arith in rw e
walk-add ms zs b (suc a) t = let e : b + suc a ≡ suc (b + a) = omega arith in rw e (walk-add ms zs b a (spent ms zs t.progress.place t))

-- one step more
walk_more : (ms zs : List ℕ) (n : ℕ) (t u : Tally) → walk ms zs n t ≡ u → walk ms zs (n + 1) t ≡ spent ms zs u.progress.place u
unfolding walk
walk_more ms zs n t u e =
    let k : n + 1 ≡ 1 + n = omega arith in
    rw k (walk-add ms zs 1 n t) ∙ ap (walk ms zs 1) e

-- what held of a host holds of it after an accepted call
module _ (t y : List ℕ) (h : Host) (c : Beside) (s : Step) (sized : Sizes (order_in h)) (a : Accepted h c s)
    (g : Reached (order_in h) t y h) where
  abbrev own : WideOrder
  own = order_in h

  abbrev ps : List ℕ
  ps = pivots_in h

  abbrev u : ℕ
  u = opened_in h c s

  abbrev h' : Host
  h' = stepped h c s

  stood : Stood own ps (At s)
  stood = stood_at own sized s a.place g.standing

  here : Places own ps s
  here = places-at own sized s a.place g.standing

  pub found : pivots_in h' ≡ found_after s u ps
  unfolding moved_on
  found = listed_found own sized s u h.progress.pivots g.standing.kept g.standing.slots stood

  pub next : h'.progress.place ≡ following own.rows own.columns (found_after s u ps) s u
  unfolding moved_on
  next = ap (λ (qs : List ℕ). following own.rows own.columns qs s u) found

  mask_more : length (h.mask ++ c.mask) ≡ length h.mask + mask_cost own s
  mask_more = length-append h.mask c.mask ∙ ap (λ (k : ℕ). length h.mask + k) a.mask

  nonzero_more : length (h.nonzero ++ c.nonzero) ≡ length h.nonzero + nonzero_cost own s
  nonzero_more = length-append h.nonzero c.nonzero ∙ ap (λ (k : ℕ). length h.nonzero + k) a.nonzero

  module _ (x ms zs : List ℕ) (places : length x ≡ own.columns) (d : Begins own.field (h.mask ++ c.mask) ms)
      (e : Begins own.field (h.nonzero ++ c.nonzero) zs) where
    -- the solve's tapes from its step's first draws on
    masks : SameDraws (field_of own.field) (mask_cost own s) c.mask (drop h.progress.mask ms)
    masks = rw g.recorded.mask (begins_back own.field h.mask c.mask d a.mask)

    others : SameDraws (field_of own.field) (nonzero_cost own s) c.nonzero (drop h.progress.nonzero zs)
    others = rw g.recorded.nonzero (begins_back own.field h.nonzero c.nonzero e a.nonzero)

    -- the solve is where the host is, with a solution v of its own that has the same unknowns: so it is after its next step
    module _ (v : List ℕ) (long : length v ≡ own.columns) (same : Same ps (unopened ps (At s)) y h.solution v) where
      abbrev after-solution : List ℕ
      after-solution = (spent ms zs (At s) (tally_of h v)).left.solution

      opens : opened own ps s c.mask (lends h) ≡ opened own ps s (drop h.progress.mask ms) (held h.table v)
      opens = opened-own own sized s a.place g.standing h.table a.table masks h.solution v

      step_more : spent ms zs (At s) (tally_of h v) ≡ tally_of h' after-solution
      step_more =
          rw (opens, table-own own sized s a.place g.standing h.table a.table masks others h.solution v (same_read own ps s stood same))

      long_more : length after-solution ≡ own.columns
      unfolding acted
      long_more = leaves-places _ _ _ _ s _ _ (held h.table v) ∙ long

      -- it writes what the host's step writes
      same_more : SameIn y h' after-solution
      unfolding moved_on
      same_more =
          rw (found, acted-written own ps s (drop h.progress.mask ms) (drop h.progress.nonzero zs) (held h.table v), ← opens)
          (same_after own sized.some ps g.standing.kept.rise y h.solution v u s stood (omega (arith, here.column_high, a.solution))
          (omega (arith, here.column_high)) same)

    solve_more : (v : List ℕ) × (walk ms zs (h.steps + 1) (begun own (held t x)) ≡ tally_of h' v) × (length v ≡ own.columns) × SameIn y h' v
    solve_more =
        let r = g.solve x ms zs places (begins_front own.field h.mask c.mask d) (begins_front own.field h.nonzero c.nonzero e) in
        let same = rw a.place at r.3 in (
          after-solution r.0 r.2 same,
          walk_more ms zs h.steps (begun own (held t x)) (tally_of h r.0) r.1
              ∙ ap (λ (p : WidePlace). spent ms zs p (tally_of h r.0)) a.place ∙ step_more r.0 r.2 same,
          long_more r.0 r.2 same,
          same_more r.0 r.2 same,
        )

  long_after : length h'.solution ≡ length h.solution
  unfolding acted
  long_after =
      ap length (sym (acted-written own ps s c.mask c.nonzero (lends h))) ∙ leaves-places _ _ _ _ s c.mask c.nonzero (lends h)

  more : Reached own t y h'
  unfolding moved_on acted
  more =
      record {
        standing = standing-after own sized s a.place g.standing u;
        steps =
            omega (arith, g.steps, ap length (steps_after own sized s a.place g.standing u), length-append (steps_of own h.progress) (s ∷ []));
        recorded =
            record {
              mask = ap (λ (k : ℕ). k + mask_cost own s) g.recorded.mask ∙ sym mask_more;
              nonzero = ap (λ (k : ℕ). k + nonzero_cost own s) g.recorded.nonzero ∙ sym nonzero_more;
            };
        firm = rw found (firm_after own (omega (arith, sized.two)) ps c.mask c.nonzero (lends h) a.table s here);
        fair = rw found (fair_after own (omega (arith, sized.two)) ps c.mask c.nonzero (lends h) a.solution s here);
        long = long_after ∙ g.long;
        admitted = λ b.
            record {
              whole =
                  leaves_sized own.field own.shares (own.columns + 1) (row_of ps (column_of s)) (here.row_low, here.row_high) s
                  (other_row _ _ s here.other) here.column_low (omega (arith, here.column_high)) c.mask c.nonzero (lends h) a.table;
              elements = leaves_below _ _ _ _ s c.mask c.nonzero (lends h) a.elements;
              places = long_after ∙ a.solution;
            };
        drawn = both_drawn own.field h.nonzero c.nonzero g.drawn a.drawn;
        solve = solve_more;
      }

-- and so after any calls
record Run (o : WideOrder) (t y : List ℕ) (h : Host) : Type 0 where
  order : order_in h ≡ o
  now : Reached (order_in h) t y h

module _ (o : WideOrder) (sized : Sizes o) (t y : List ℕ) where
  step : (h : Host) (c : Beside) → Run o t y h → Run o t y (host_after h c)
  unfolding moved_on
  step h c g =
      ⊎_elim (λ (r : Refused h c). rw r.after g)
      (λ (r : (s : Step) × Accepted h c s).
      rw r.1.after
      (let z = rw (← g.order) at sized in record { order = g.order; now = more t y h c r.0 z r.1 g.now }))
      (each-call h c)

  steps : (h : Host) (cs : List Beside) → Run o t y h → Run o t y (drive h cs)
  unfolding drive_by
  steps h [] g = g
  steps h (c ∷ cs) g = steps (host_after h c) cs (step h c g)

  driven : (cs : List Beside) → Run o t y (drive (begin o t y) cs)
  unfolding start_of
  driven cs = steps (begin o t y) cs (record { order = refl; now = start o sized t y })

  pub order-kept : (cs : List Beside) → order_in (drive (begin o t y) cs) ≡ o
  order-kept cs = (driven cs).order

  pub reached : (cs : List Beside) → Reached o t y (drive (begin o t y) cs)
  reached cs = subst (λ (r : WideOrder). Reached r t y (drive (begin o t y) cs)) (driven cs).order (driven cs).now

  -- the same in the words of the host's own order
  pub reached_own : (cs : List Beside) → Reached (order_in (drive (begin o t y) cs)) t y (drive (begin o t y) cs)
  reached_own cs = (driven cs).now

  pub sized_own : (cs : List Beside) → Sizes (order_in (drive (begin o t y) cs))
  sized_own cs = subst Sizes (sym (driven cs).order) sized
