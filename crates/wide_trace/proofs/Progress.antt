-- Demand 3 of the wide calls is never empty. From a fresh record and an admitted table every call that lends what its step asks for is accepted, and
-- a host that goes on so comes to an end. And what the end of any run means.
-- Assumes nothing.
use mathlib.Core.Bool.{true, false, not}
use mathlib.Core.List.{List}
use mathlib.Core.Logic.{◌⊎◌, inl, inr, ⊎_elim}
use mathlib.Core.Path.{◌≡◌, refl, sym, ap, ◌∙◌, subst}
use Prim.Native.Nat.{ℕ, zero, suc, ◌+◌, ◌-◌, ◌≤◌}
use native.Mathlib.Omega.{arith}
use lib.ListN.{length, get_or, take, drop, replicate, length-replicate}
use lib.Seq.{get_or-take, get_or-drop}
use Rattle.field.specs.Field.{draw, field_of}
use Rattle.course.specs.declared.Step.{Step}
use Rattle.walk.specs.Act.{held}
use Rattle.pattern.specs.declared.WideOrder.{WideOrder}
use Rattle.pattern.specs.declared.WidePlace.{WidePlace}
use Rattle.pattern.specs.declared.WidePlace.TheVariants.{At, Short, Done}
use Rattle.pattern.specs.declared.WideProgress.{WideProgress}
use Rattle.pattern.specs.Pivots.{has, listed}
use Rattle.pattern.specs.PatternList.{Sizes, mask_cost, nonzero_cost, cost_of, wanted}
use Rattle.pattern.specs.Next.{placed, counted}
use Rattle.pattern.proofs.Moving.{room_at, standing_so}
use Rattle.algebra.specs.Wide.{IsFound, IsShort}
use Rattle.wide_walk.specs.declared.WideEnding.{WideEnding}
use Rattle.wide_walk.specs.declared.WideEnding.TheVariants as E
use Rattle.wide_walk.specs.WideWalk.{most_steps, Solution, solved, pattern_of, Ended}
use Rattle.wide_meaning.specs.WideMeaning.{value_of, Means, Given}
use Rattle.wide_meaning.proofs.Meant.{meant}
use Rattle.verdict.specs.Told.{passed}
use Rattle.verdict.specs.Calls.{gives, call}
use Rattle.verdict.proofs.Passes.{unmet, right-length, two_passes, three_passes, twenty_one_passes, six_passes, nine_passes, exactly_passes, ◌and◌}
use Rattle.verdict.specs.Refusals.{no4, no5}
use Rattle.wide.specs.WideRefusals.{no1, sizes, whole_table, table_rows, solve_order, cost_at, ended, no10, no19, no11, standing, wanted_order, placing, step_order}
use Rattle.wide.specs.WideCalls.{solve_does, solve_call, wanted_call}
use Rattle.wide.proofs.Ready.{Solvable, solvable}
use Rattle.trace.specs.Driving.{Beside, NoneZero, calls_by, driven_by, drive_by}
use Rattle.trace.proofs.Driving.{cut-more, cut_begins, part_long, padded, padded_begins, padded_drawn, next_by, all_by}
use Rattle.wide_trace.specs.WideTrace.{Host, begin, host_after, drive, driven, order_in, pivots_in, Refused, Accepted, counts_in, Agrees, Admitted, Fit, Supplies}
use Rattle.wide_trace.proofs.Call.{verdict, accepted_call, each-call}
use Rattle.wide_trace.proofs.Pivot.{Firm, Fair}
use Rattle.wide_trace.proofs.Reached.{reached, reached_own, sized_own, order-kept}
use Rattle.wide_trace.proofs.Run.{agrees, agrees-call, pattern}

-- ---- what the checks of a call pass: wide's Ready goes the other way

pub sizes_pass : (o : WideOrder) → Sizes o → sizes o ≡ passed
unfolding sizes no1
sizes_pass o z =
    right-length 1 _ z.field and two_passes o.shares z.two z.four and three_passes o.rows z.some z.most
    and twenty_one_passes o.rows o.columns z.wide z.widest

module _ (p : WideProgress) (so : (placed p ≡ true) × (counted p ≡ true)) (runs : ended p.place ≡ false) where
  standing_passes : standing p ≡ passed
  unfolding standing no10 no11 no19
  standing_passes = unmet 10 _ (ap not so.0) and (unmet 19 _ (ap not so.1) and unmet 11 _ runs)

  wanted_passes : Sizes p.order → wanted_order p ≡ passed
  unfolding wanted_order
  wanted_passes z = sizes_pass p.order z and standing_passes

  pub step_passes : Sizes p.order → (t x : List ℕ) → Admitted p.order t x → Firm p.order (listed p.pivots) t p.place
      → Fair p.order x p.place → (mask : ℕ) (nonzero : List ℕ) → mask ≡ (cost_at p.order p.place).mask
      → length nonzero ≡ (cost_at p.order p.place).nonzero → NoneZero p.order.field nonzero → step_order p t x mask nonzero ≡ passed
  unfolding step_order placing no4 no5
  step_passes z t x a firm fair mask nonzero lm ln d =
      let o = p.order in
      sizes_pass o z
      and (right-length 4 _ a.whole and right-length 5 _ a.places and standing_passes
      and (six_passes o.field (table_rows o) t a.elements
      and (exactly_passes o.field (cost_at o p.place).mask (cost_at o p.place).nonzero mask nonzero
      (record { masks = lm; others = ln; nonzeros = nine_passes o.field nonzero d })
      and (fair and firm))))

runs_at : (p : WidePlace) (s : Step) → p ≡ At s → ended p ≡ false
unfolding ended
runs_at p s e = rw e

module _ (o : WideOrder) (sized : Sizes o) (t y : List ℕ) where
  abbrev first : Host
  first = begin o t y

  module _ (cs : List Beside) where
    abbrev d : Host
    d = drive first cs

    -- what `wanted` tells at a step of a run is the step's draws
    pub wanted-tells : (s : Step) → d.progress.place ≡ At s → (wanted_call d.progress).says ≡ gives (cost_of o s)
    unfolding wanted_call call cost_at
    wanted-tells s e =
        let g = reached_own o sized t y cs in
        rw (wanted_passes d.progress (standing_so (order_in d) d.progress g.standing) (runs_at _ s e) (sized_own o sized t y cs), e, order-kept o sized t y cs)

    -- 5. Whatever calls came before: a call that is fit for the step at the record's place is accepted
    module _ (admitted : Admitted o t y) where
      fit_passes : (c : Beside) (s : Step) → d.progress.place ≡ At s → Fit (order_in d) s c → verdict d c ≡ passed
      unfolding cost_at
      fit_passes c s e f =
          let g = reached_own o sized t y cs in
          step_passes d.progress (standing_so (order_in d) d.progress g.standing) (runs_at _ s e) (sized_own o sized t y cs) d.table d.solution
          (g.admitted (subst (λ (r : WideOrder). Admitted r t y) (sym (order-kept o sized t y cs)) admitted)) g.firm g.fair (length c.mask) c.nonzero
          (f.mask ∙ ap (λ (p : WidePlace). (cost_at (order_in d) p).mask) (sym e)) (f.nonzero ∙ ap (λ (p : WidePlace). (cost_at (order_in d) p).nonzero) (sym e)) f.drawn

      pub accepted : (c : Beside) (s : Step) → d.progress.place ≡ At s → Fit o s c → Accepted d c s
      accepted c s e f =
          let a = accepted_call d c (fit_passes c s e (subst (λ (r : WideOrder). Fit r s c) (sym (order-kept o sized t y cs)) f)) in
          let p = a.1.place in
          let same : a.0 ≡ s = cc in
          rw same at a.1

  -- a host that goes on with fit calls
  module _ (admitted : Admitted o t y) (lend : Host → Beside) (supplies : Supplies o first lend) where
    pub supplied : (k : ℕ) (s : Step) → (driven lend k first).progress.place ≡ At s → Accepted (driven lend k first) (lend (driven lend k first)) s
    unfolding driven_by
    supplied k s e = accepted (calls_by host_after lend k first) admitted (lend (driven lend k first)) s e (supplies.fit k s e)

    abbrev Going : Host → Type 0
    Going h = (r : Step) × (h.progress.place ≡ At r)

    -- an ended host stays as it is
    stays : (k : ℕ) → (Going (driven lend k first) → ⊥) → host_after (driven lend k first) (lend (driven lend k first)) ≡ driven lend k first
    stays k ended =
        ⊎_elim (λ (r : Refused (driven lend k first) (lend (driven lend k first))). r.after)
        (λ (r : (s : Step) × Accepted (driven lend k first) (lend (driven lend k first)) s). absurd (ended (r.0, r.1.place)))
        (each-call (driven lend k first) (lend (driven lend k first)))

    goes : (p : WidePlace) → ((r : Step) × (p ≡ At r)) ⊎ (((r : Step) × (p ≡ At r)) → ⊥)
    goes (At s) = inl (s, refl)
    goes Short = inr (λ r. let e = r.1 in let z : ◌≡◌ {A = ℕ} 0 1 = cc in omega arith)
    goes Done = inr (λ r. let e = r.1 in let z : ◌≡◌ {A = ℕ} 0 1 = cc in omega arith)

    -- at a step, every call so far was accepted
    pub all_accepted : (k : ℕ) (s : Step) → (driven lend k first).progress.place ≡ At s → (driven lend k first).steps ≡ k
    all_accepted k s e =
        all_by host_after lend first Going (λ h. h.steps) refl (λ k. goes (driven lend k first).progress.place)
        (λ k r. ap (λ (h : Host). h.steps) (supplied k r.0 r.1).after) stays k (s, e)

    ends : (p : WidePlace) → (driven lend (most_steps o) first).progress.place ≡ p → Ended p
    unfolding driven_by most_steps
    ends (At s) e =
        let g = reached o sized t y (calls_by host_after lend (most_steps o) first) in
        let r = (room_at o sized s e g.standing).0 in
        let n = g.steps in
        let k = all_accepted (most_steps o) s e in
        omega arith
    ends Short e = tt
    ends Done e = tt

    -- it is short or done after no more than so many calls; how many of them were accepted is `counted`
    pub reaches : Ended (driven lend (most_steps o) first).progress.place
    reaches = ends (driven lend (most_steps o) first).progress.place refl

-- ---- every whole solve has such a run

-- the parts of a solve's tapes that the record's place asks for, from where the host has come to
abbrev cut : WideOrder → List ℕ → List ℕ → Host → Beside
cut o ms zs h =
    record {
      mask = take (cost_at o h.progress.place).mask (drop (length h.mask) ms);
      nonzero = take (cost_at o h.progress.place).nonzero (drop (length h.nonzero) zs);
    }

module _ (o : WideOrder) (t y ms zs : List ℕ) (passes : solve_order o t (length y) (length ms) zs ≡ passed) where
  checked : Solvable o t (length y) (length ms) zs
  checked = solvable o t (length y) (length ms) zs passes

  abbrev fresh : Host
  fresh = begin o t y

  cut_fits : Supplies o fresh (cut o ms zs)
  unfolding driven_by cost_at
  cut_fits = record { fit = fits }
    where
      fits : (k : ℕ) (s : Step) → (driven (cut o ms zs) k fresh).progress.place ≡ At s → Fit o s (cut o ms zs (driven (cut o ms zs) k fresh))
      fits k s e =
          let h : Host = driven (cut o ms zs) k fresh in
          let g = reached o checked.sizes t y (calls_by host_after (cut o ms zs) k fresh) in
          let r = room_at o checked.sizes s e g.standing in
          let rm : length h.mask + mask_cost o s ≤ (wanted o).mask = rw g.recorded.mask at r.1 in
          let rn : length h.nonzero + nonzero_cost o s ≤ (wanted o).nonzero = rw g.recorded.nonzero at r.2 in
          let long = part_long (length h.nonzero) (nonzero_cost o s) (wanted o).nonzero zs rn checked.tapes.others in
          rw e
          (record {
            mask = part_long (length h.mask) (mask_cost o s) (wanted o).mask ms rm checked.tapes.masks;
            nonzero = long;
            drawn = λ i l z.
                checked.tapes.drawn (length h.nonzero + i) (omega arith)
                (ap (draw (field_of o.field))
                (sym (get_or-take (nonzero_cost o s) (drop (length h.nonzero) zs) i 0 (omega arith) ∙ get_or-drop (length h.nonzero) zs i 0)) ∙ z);
          })

  -- what the host has lent is what the tapes begin with
  record Cut (h : Host) : Type 0 where
    mask : h.mask ≡ take (length h.mask) ms
    nonzero : h.nonzero ≡ take (length h.nonzero) zs

  cut-driven : (h : Host) → Cut h → Cut (host_after h (cut o ms zs h))
  cut-driven h b =
      ⊎_elim (λ (r : Refused h (cut o ms zs h)). rw r.after b)
      (λ (r : (s : Step) × Accepted h (cut o ms zs h) s).
      rw r.1.after
      (record {
        mask = cut-more h.mask ms (cost_at o h.progress.place).mask b.mask;
        nonzero = cut-more h.nonzero zs (cost_at o h.progress.place).nonzero b.nonzero;
      }))
      (each-call h (cut o ms zs h))

  cuts : (k : ℕ) → Cut (driven (cut o ms zs) k fresh)
  unfolding driven_by calls_by drive_by
  cuts zero = record { mask = refl; nonzero = refl }
  cuts (suc k) = rw (next_by host_after (cut o ms zs) fresh k) (cut-driven (driven (cut o ms zs) k fresh) (cuts k))

  -- For every solve that is admitted: step calls that are lent the tapes part by part, each what the record's place asks for, all accepted up
  -- to the end (`supplied`), come to the solve's end. So `agrees` speaks of every solve
  pub as_solve : (cs : List Beside) × Ended (drive fresh cs).progress.place
      × Agrees o y (drive fresh cs) (solve_call o (held t y) ms zs) (drive fresh cs).progress.place
  unfolding driven_by
  as_solve =
      let cs : List Beside = calls_by host_after (cut o ms zs) (most_steps o) fresh in
      let b = cuts (most_steps o) in
      let a : Admitted o t y = record { whole = checked.lent.whole; elements = checked.lent.elements; places = checked.lent.room } in (
        cs,
        reaches o checked.sizes t y a (cut o ms zs) cut_fits,
        agrees-call o checked.sizes t y cs y ms zs (cut_begins o.field (drive fresh cs).mask ms b.mask) (cut_begins o.field (drive fresh cs).nonzero zs b.nonzero) passes,
      )

-- ---- what the end of a run means

module _ (o : WideOrder) (sized : Sizes o) (t y : List ℕ) (cs : List Beside) (whole : length t ≡ whole_table o) where
  abbrev end : Host
  end = drive (begin o t y) cs

  -- the host's nonzero draws, and ones behind them
  abbrev tape : List ℕ
  tape = padded end.nonzero (wanted o).nonzero

  abbrev zeros : List ℕ
  zeros = replicate o.columns 0

  lent : Given o tape t zeros
  lent =
      record {
        sizes = sized;
        table = whole;
        solution = length-replicate o.columns 0;
        nonzero = padded_drawn o.field end.nonzero (wanted o).nonzero (reached o sized t y cs).drawn;
      }

  abbrev does : Solution
  does = solved o end.mask tape (held t zeros)

  -- what the solve on the host's draws comes to
  agreed : Agrees o y end (solve_does does) end.progress.place
  agreed =
      agrees o sized t y cs zeros end.mask tape (record { at = λ i h. refl }) (padded_begins o.field end.nonzero (wanted o).nonzero)
      (length-replicate o.columns 0)

  -- and what its answer means: its pivots are the host's
  means : (e : WideEnding) → Ended end.progress.place → gives does.answer ≡ gives e → Means o t e (pivots_in end) does.left.solution
  means e d g =
      let same : does.answer ≡ e = cc in
      subst (λ (ps : List ℕ). Means o t e ps does.left.solution)
      (pattern o sized t y cs zeros end.mask tape (record { at = λ i h. refl }) (padded_begins o.field end.nonzero (wanted o).nonzero)
      (length-replicate o.columns 0) d)
      (subst (λ (a : WideEnding). Means o t a (pattern_of o end.mask tape (held t zeros)) does.left.solution) same (meant o end.mask tape t zeros lent))

  -- 6. At short the pivots are those of the first table, fewer than its rows
  pub short_means : end.progress.place ≡ Short → IsShort (field_of o.field) o.rows (value_of o t) o.columns (pivots_in end)
  short_means e = means (E.Short (counts_in end)) (subst Ended (sym e) tt) (rw e at agreed).says

  -- and at done they are one for each row, and the host's solution has at the pivots what the single solution with zeros outside them has
  pub done_means : end.progress.place ≡ Done → (x : List ℕ)
      × IsFound (field_of o.field) o.rows (value_of o t) o.columns (pivots_in end) (λ c. get_or x (c - 1) 0)
      × ((c : ℕ) → has (pivots_in end) c ≡ true → get_or end.solution (c - 1) 0 ≡ get_or x (c - 1) 0)
  done_means e =
      let a = rw e at agreed in (
        does.left.solution,
        means (E.Solved (counts_in end)) (subst Ended (sym e) tt) a.says,
        λ c h. sym (a.pivots c h),
      )
