-- What holds of a host however it was driven: the steps that it has done are the list's, in order, and the whole solve on tapes with its
-- draws, lent any first solution, comes by the same steps to the same table, and to the same unknowns as far as they are opened.
-- Assumes nothing.
use mathlib.Core.Bool.{true}
use mathlib.Core.List.{List, [], ◌∷◌, ◌++◌, append_assoc}
use mathlib.Core.Logic.{⊎_elim}
use mathlib.Core.Path.{◌≡◌, refl, sym, ap, ◌∙◌}
use Prim.Native.Nat.{ℕ, ◌+◌, ◌≤◌}
use native.Mathlib.Nat.{add-zero}
use native.Mathlib.Omega.{arith}
use lib.Dec.{ltb}
use lib.ListN.{length, drop, length-append}
use Rattle.course.specs.declared.Step.{Step}
use Rattle.course.specs.declared.Place.{Place}
use Rattle.course.specs.declared.Place.TheVariants.{At, Done}
use Rattle.course.specs.declared.Order.{Order}
use Rattle.course.specs.declared.Counts.{Counts}
use Rattle.course.specs.StepList.{Sizes, mask_cost, nonzero_cost, step_list, sum_over, sums}
use Rattle.course.specs.Next.{first_of, following, start_of, counted, Chain}
use Rattle.course.proofs.Within.{within}
use Rattle.course.proofs.Chain.{unique, chain}
use Rattle.course.proofs.Sums.{sum-append}
use Rattle.course.proofs.Along.{either, resume, calm_resume, first_calm, resume-after, Along, start_along, turn_along}
use Rattle.course.proofs.Moving.{start_counted, moved_counted}
use Rattle.walk.specs.Act.{held}
use Rattle.walk.specs.Walk.{Tally, running, course_of, spent, walk, fresh}
use Rattle.trace.specs.Driving.{Beside, NoneZero, Begins, drive_by}
use Rattle.trace.specs.Trace.{Host, begin, lends, host_after, drive, order_in, opened_in, stepped, Refused, Accepted, counts_in, Recorded, Admitted}
use Rattle.trace.proofs.Driving.{begins_front, begins_back, both_drawn}
use Rattle.trace.proofs.Call.{acted-written, each-call}
use Rattle.trace.proofs.Own.{known_from, SameFrom, same_first, same_read, same_after, opened-own, table-own}
use Rattle.walk.proofs.Acted.{acted_sized, acted-places, acted_below}
use Rattle.walk.proofs.Walked.{calm_course, walk-append}
use Rattle.trace.proofs.Pivot.{Firm, firm_first, firm_after, Fair, fair_first, fair_after}

-- one step more in a sum
sums_more : (o : Order) (l : List Step) (s : Step) (c : Counts) → c ≡ sums o l
    → ◌≡◌ {A = Counts} (record { steps = c.steps + 1; mask = c.mask + mask_cost o s; nonzero = c.nonzero + nonzero_cost o s }) (sums o (l ++ (s ∷ [])))
unfolding sums sum_over
sums_more o l s c e =
    rw (e, length-append l (s ∷ []), sum-append (mask_cost o) l (s ∷ []), sum-append (nonzero_cost o) l (s ∷ []), add-zero (mask_cost o s), add-zero (nonzero_cost o s))

-- what the whole solve has counted and holds where a host is, with a solution v of its own
abbrev pub tally_of : Host → List ℕ → Tally
tally_of h v =
    record { left = held h.table v; steps = h.steps; mask = length h.mask; nonzero = length h.nonzero }

pub record Reached (o : Order) (t x : List ℕ) (h : Host) : Type 0 where
  pub along : Along o h.progress.place h.steps (length h.mask) (length h.nonzero)
  -- the steps done, which any way on to the end makes up to the list
  pub steps : List Step
  pub whole : (rest : List Step) → Chain o.size (resume h.progress.place) rest Done → step_list o.size ≡ steps ++ rest
  pub counts : counts_in h ≡ sums o steps
  -- the record's counters are the draws lent, and match its place
  pub recorded : Recorded h
  pub matched : counted h.progress ≡ true
  pub firm : Firm o h.table h.progress.place
  pub fair : Fair o h.solution h.progress.place
  -- a host that has come to the end has lent a solution of m bytes
  pub places : h.progress.place ≡ Done → length h.solution ≡ o.size
  -- what a call asks of the table and the solution goes on holding
  pub admitted : Admitted o t x → Admitted o h.table h.solution
  pub drawn : NoneZero o.field h.nonzero
  pub solve : (y ms zs : List ℕ) → length y ≡ o.size → Begins o.field h.mask ms → Begins o.field h.nonzero zs
      → (v : List ℕ) × (walk o ms zs steps (running (fresh (held t y))) ≡ course_of h.progress.place (tally_of h v))
      × (length v ≡ o.size) × SameFrom o.size (known_from o.size h.progress.place) h.solution v

not_done : (m : ℕ) → first_of m 1 ≡ Done → ⊥
unfolding first_of
not_done m =
    either (λ (p : Place). p ≡ Done → ⊥) (ltb 1 m) (λ e. let z : ◌≡◌ {A = ℕ} 0 1 = cc in omega arith) (λ e. let z : ◌≡◌ {A = ℕ} 0 1 = cc in omega arith)

start : (o : Order) → 1 ≤ o.size → (t x : List ℕ) → Reached o t x (begin o t x)
unfolding start_of walk sums sum_over
start o some t x =
    let m : ℕ = o.size in
    let c = first_calm m 1 in
    record {
      along = start_along o some;
      steps = [];
      whole = λ rest e. unique m (first_of m 1) (step_list m) rest (chain m some) (rw (calm_resume (first_of m 1) c) at e);
      counts = refl;
      recorded = record { mask = refl; nonzero = refl };
      matched = start_counted o;
      firm = firm_first o t 1;
      fair = fair_first o x 1;
      places = λ e. absurd (not_done m e);
      admitted = λ a. a;
      drawn = λ k l. absurd (omega arith);
      solve = λ y ms zs l d e. (y, calm_course (first_of m 1) (fresh (held t y)) c, l, same_first m 1);
    }

-- what held of a host holds of it after an accepted call
module _ (t x : List ℕ) (h : Host) (c : Beside) (s : Step) (sized : Sizes (order_in h)) (a : Accepted h c s)
    (g : Reached (order_in h) t x h) where
  abbrev own : Order
  own = order_in h

  abbrev u : ℕ
  u = opened_in h c s

  abbrev h' : Host
  h' = stepped h c s

  mask_more : length (h.mask ++ c.mask) ≡ length h.mask + mask_cost own s
  mask_more = length-append h.mask c.mask ∙ ap (λ (k : ℕ). length h.mask + k) a.mask

  nonzero_more : length (h.nonzero ++ c.nonzero) ≡ length h.nonzero + nonzero_cost own s
  nonzero_more = length-append h.nonzero c.nonzero ∙ ap (λ (k : ℕ). length h.nonzero + k) a.nonzero

  whole_more : (rest : List Step) → Chain own.size (resume h'.progress.place) rest Done
      → step_list own.size ≡ (g.steps ++ (s ∷ [])) ++ rest
  whole_more rest e =
      let f : Chain own.size (following own.size s 0) rest Done = rw (resume-after own.size s u) at e in
      rw append_assoc (g.whole (s ∷ rest) (rw a.place (refl, f)))

  module _ (y ms zs : List ℕ) (places : length y ≡ own.size) (d : Begins own.field (h.mask ++ c.mask) ms) (e : Begins own.field (h.nonzero ++ c.nonzero) zs) where
    -- the solve is where the host is, with a solution v of its own that has the same unknowns: so it is after its next step
    module _ (v : List ℕ) (long : length v ≡ own.size) (same : SameFrom own.size (known_from own.size (At s)) h.solution v) where
      abbrev after-solution : List ℕ
      after-solution = (spent own ms zs s (tally_of h v)).left.solution

      step_more : walk own ms zs (s ∷ []) (course_of h.progress.place (tally_of h v)) ≡ course_of h'.progress.place (tally_of h' after-solution)
      unfolding walk
      step_more =
          let dm = begins_back own.field h.mask c.mask d a.mask in
          let dz = begins_back own.field h.nonzero c.nonzero e a.nonzero in
          rw (a.place, opened-own own h.table a.table s a.listed dm h.solution v, table-own own h.table a.table s a.listed dm dz h.solution v (same_read own.size s a.listed same), mask_more, nonzero_more)

      long_more : length after-solution ≡ own.size
      long_more = acted-places own s (drop (length h.mask) ms) (drop (length h.nonzero) zs) (held h.table v) ∙ long

      -- it writes what the host's step writes
      same_more : SameFrom own.size (known_from own.size h'.progress.place) h'.solution after-solution
      same_more =
          let dm = begins_back own.field h.mask c.mask d a.mask in
          rw (acted-written own s (drop (length h.mask) ms) (drop (length h.nonzero) zs) (held h.table v), ← (opened-own own h.table a.table s a.listed dm h.solution v))
          (same_after own.size h.solution v a.solution long u s a.listed same)

    solve_more : (v : List ℕ)
        × (walk own ms zs (g.steps ++ (s ∷ [])) (running (fresh (held t y))) ≡ course_of h'.progress.place (tally_of h' v))
        × (length v ≡ own.size) × SameFrom own.size (known_from own.size h'.progress.place) h'.solution v
    solve_more =
        let r = g.solve y ms zs places (begins_front own.field h.mask c.mask d) (begins_front own.field h.nonzero c.nonzero e) in
        let same = rw a.place at r.3 in (
          after-solution r.0 r.2 same,
          walk-append own ms zs g.steps (s ∷ []) (running (fresh (held t y))) ∙ ap (walk own ms zs (s ∷ [])) r.1 ∙ step_more r.0 r.2 same,
          long_more r.0 r.2 same,
          same_more r.0 r.2 same,
        )

  places_more : length h'.solution ≡ own.size
  places_more =
      ap length (sym (acted-written own s c.mask c.nonzero (lends h))) ∙ acted-places own s c.mask c.nonzero (lends h) ∙ a.solution

  more : Reached own t x h'
  more =
      record {
        along = rw (mask_more, nonzero_more) (turn_along own (rw a.place at g.along) u);
        steps = g.steps ++ (s ∷ []);
        whole = whole_more;
        counts = rw (mask_more, nonzero_more) (sums_more own g.steps s (counts_in h) g.counts);
        recorded =
            record {
              mask = ap (λ (k : ℕ). k + mask_cost own s) g.recorded.mask ∙ sym mask_more;
              nonzero = ap (λ (k : ℕ). k + nonzero_cost own s) g.recorded.nonzero ∙ sym nonzero_more;
            };
        matched = moved_counted h.progress s u a.place a.listed g.matched;
        firm = firm_after own (omega (arith, sized.two)) c.mask c.nonzero (lends h) a.table s a.listed;
        places = λ e. places_more;
        fair = fair_after own c.mask (lends h) a.solution s a.listed;
        admitted = λ b.
            record {
              whole = acted_sized own s (within own.size s a.listed) c.mask c.nonzero (lends h) a.table;
              elements = acted_below own s c.mask c.nonzero (lends h) a.elements;
              places = places_more;
            };
        drawn = both_drawn own.field h.nonzero c.nonzero g.drawn a.drawn;
        solve = solve_more;
      }

-- and so after any calls
record Run (o : Order) (t x : List ℕ) (h : Host) : Type 0 where
  order : order_in h ≡ o
  now : Reached (order_in h) t x h

module _ (o : Order) (sized : Sizes o) (t x : List ℕ) where
  step : (h : Host) (c : Beside) → Run o t x h → Run o t x (host_after h c)
  step h c g =
      ⊎_elim (λ (r : Refused h c). rw r.after g)
      (λ (r : (s : Step) × Accepted h c s).
      rw r.1.after
      (record { order = g.order; now = more t x h c r.0 (rw (← g.order) at sized) r.1 g.now }))
      (each-call h c)

  steps : (h : Host) (cs : List Beside) → Run o t x h → Run o t x (drive h cs)
  unfolding drive_by
  steps h [] g = g
  steps h (c ∷ cs) g = steps (host_after h c) cs (step h c g)

  driven : (cs : List Beside) → Run o t x (drive (begin o t x) cs)
  unfolding start_of
  driven cs = steps (begin o t x) cs (record { order = refl; now = start o sized.some t x })

  pub order-kept : (cs : List Beside) → order_in (drive (begin o t x) cs) ≡ o
  order-kept cs = (driven cs).order

  pub reached : (cs : List Beside) → Reached o t x (drive (begin o t x) cs)
  reached cs = rw (driven cs).order at (driven cs).now
