-- Demand 3 of the wide calls: what a host does by step calls, however many and with refused ones among them, and the whole solve are one and the
-- same. `o` is an order of right sizes, t any first table, y any first solution, and cs any calls from a record of Start.
-- Assumes nothing.
use mathlib.Core.Bool.{true, false, not, false≢true}
use mathlib.Core.List.{List, [], ◌∷◌, ◌++◌}
use mathlib.Core.Logic.{◌⊎◌, inl, inr}
use mathlib.Core.Path.{◌≡◌, refl, sym, ap, ◌∙◌, subst}
use Prim.Native.Nat.{ℕ, ◌+◌, ◌-◌, ◌≤◌}
use native.Mathlib.Omega.{arith}
use lib.ListN.{length, get_or, replicate, length-replicate}
use borrow.Author.Tests.{eq-eqb, ne_eqb}
use Rattle.course.specs.declared.Step.{Step}
use Rattle.course.specs.declared.Counts.{Counts}
use Rattle.walk.specs.Act.{held}
use Rattle.pattern.specs.declared.WideOrder.{WideOrder}
use Rattle.pattern.specs.declared.WidePlace.{WidePlace}
use Rattle.pattern.specs.declared.WidePlace.TheVariants.{At, Short, Done}
use Rattle.pattern.specs.PatternList.{Sizes, pattern_list, sums, steps_before, taken_at, wanted}
use Rattle.pattern.specs.declared.WideProgress.{WideProgress}
use Rattle.pattern.specs.Pivots.{has, listed}
use Rattle.pattern.specs.Next.{placed, counted as matches}
use Rattle.pattern.proofs.Moving.{steps_of, steps_after, few_pivots, standing_so}
use Rattle.pattern.proofs.Enough.{enough, steps_few}
use Rattle.wide_walk.specs.WideWalk.{Tally, walk, most_steps, conclude, begun, ended, solved, pattern_of, Ended}
use Rattle.wide_walk.proofs.Walked.{stays}
use Rattle.verdict.specs.Told.{Told, passed}
use Rattle.verdict.specs.Calls.{call}
use Rattle.verdict.proofs.Passes.{unmet, right-length, two_passes, three_passes, twenty_one_passes}
use Rattle.wide.specs.WideRefusals.{no1, no10, no19, solve_order}
use Rattle.wide.specs.WideCalls.{solve_does, solve_call}
use Rattle.wide.proofs.Ready.{solvable}
use Rattle.trace.specs.Driving.{Beside, Begins}
use Rattle.trace.specs.Numbers.{one_of, Among}
use Rattle.trace.specs.Trace.{possible}
use Rattle.trace.proofs.Driving.{last_by}
use Rattle.trace.proofs.Numbers.{Each, ◌also◌, not_given, given}
use Rattle.trace.proofs.Own.{all_known}
use Rattle.wide_trace.specs.WideTrace.{Host, begin, host_after, drive, order_in, pivots_in, opened_in, Refused, Accepted, counts_in, Counted, Recorded, Agrees, Only, Never}
use Rattle.wide_trace.proofs.Numbers.{checks, by_number}
use Rattle.wide_trace.proofs.Call.{each-call, refusal}
use Rattle.wide_trace.proofs.Pivot.{Firm, Fair}
use Rattle.wide_trace.proofs.Written.{same_blank, all-zero}
use Rattle.wide_trace.proofs.Reached.{tally_of, SameIn, walk-add, Reached, order-kept, reached, reached_own, sized_own}

-- the checks of a call, each at its number
abbrev pub checks_of : Host → Beside → List Told
checks_of h c = checks h.progress h.table h.solution (length c.mask) c.nonzero

-- a number whose check passes is not given
pub never : (h : Host) (c : Beside) (k : ℕ) → get_or (checks_of h c) k passed ≡ passed → Never k h c
never h c k e l g =
    not_given (checks_of h c) (by_number h.progress h.table h.solution (length c.mask) c.nonzero) k e l (refusal h c l g)

-- what is given is one of some numbers, where the check of each other number passes
only : (h : Host) (c : Beside) (ns : List ℕ) → Each (λ k. one_of k ns ≡ true) (checks_of h c) → Only ns h c
unfolding Among
only h c ns each l g =
    given (checks_of h c) (by_number h.progress h.table h.solution (length c.mask) c.nonzero) (λ k. one_of k ns ≡ true) each l
    (refusal h c l g)

-- each number from 0 on of a record in a run: its check passes, or it is one of those that are possible
each_number : (p : WideProgress) (t x : List ℕ) (c : Beside) → Sizes p.order → Firm p.order (listed p.pivots) t p.place
    → Fair p.order x p.place → (placed p ≡ true) × (matches p ≡ true)
    → Each (λ k. one_of k possible ≡ true) (checks p t x (length c.mask) c.nonzero)
unfolding Each one_of no1 no10 no19
each_number p t x c z firm fair s =
    inl refl
    also inl (right-length 1 _ z.field)
    also inl (two_passes p.order.shares z.two z.four)
    also inl (three_passes p.order.rows z.some z.most)
    also inr refl
    also inr refl
    also inr refl
    also inr refl
    also inr refl
    also inr refl
    also inl (unmet 10 _ (ap not s.0))
    also inr refl
    also inl firm
    also inl refl
    also inr refl
    also inr refl
    also inl refl
    also inl refl
    also inl refl
    also inl (unmet 19 _ (ap not s.1))
    also inl fair
    also inl (twenty_one_passes p.order.rows p.order.columns z.wide z.widest)
    also tt

-- what a host that is reached has, by its place
module _ (o : WideOrder) (sized : Sizes o) (t y : List ℕ) (h : Host) (g : Reached o t y h) where
  abbrev ps : List ℕ
  ps = pivots_in h

  -- the steps before its place, and their draws
  counts : counts_in h ≡ sums o (steps_of o h.progress)
  unfolding sums taken_at
  counts = rw (g.steps, sym g.recorded.mask ∙ g.standing.mask, sym g.recorded.nonzero ∙ g.standing.nonzero)

  pub counted-at : (p : WidePlace) → h.progress.place ≡ p → Counted o (counts_in h) ps p
  unfolding steps_before pattern_list
  counted-at (At s) e = rw e at counts
  counted-at Short e =
      let st = rw e at g.standing.stood in
      (st, rw (ne_eqb (length ps) o.rows (omega arith)) (rw e at counts))
  counted-at Done e =
      let st = rw e at g.standing.stood in
      (st, rw (eq-eqb (length ps) o.rows st) (rw e at counts))

  -- they are among those of the whole solve
  pub within : (h.steps ≤ most_steps o) × (length h.mask ≤ (wanted o).mask) × (length h.nonzero ≤ (wanted o).nonzero)
  unfolding most_steps
  within =
      let s = g.standing in
      let n = steps_few o sized.some ps s.kept.rise h.progress.place s.stood in
      let w = enough o sized.some ps s.kept.rise (few_pivots o sized s) h.progress.place s.stood in
      (omega (arith, n, g.steps), omega (arith, w.0, s.mask, g.recorded.mask), omega (arith, w.1, s.nonzero, g.recorded.nonzero))

  module _ (x ms zs v : List ℕ) (same : walk ms zs h.steps (begun o (held t x)) ≡ tally_of h v) where
    -- a host at an end is where the whole solve comes to
    come : Ended h.progress.place → ended o ms zs (held t x) ≡ tally_of h v
    come d =
        let most : most_steps o ≡ most_steps o - h.steps + h.steps = omega (arith, within.0) in
        ap (λ (k : ℕ). walk ms zs k (begun o (held t x))) most ∙ walk-add ms zs (most_steps o - h.steps) h.steps (begun o (held t x))
        ∙ ap (walk ms zs (most_steps o - h.steps)) same ∙ stays o sized ms zs (most_steps o - h.steps) (tally_of h v) d

    -- with the host's pivots
    pattern-at : Ended h.progress.place → pattern_of o ms zs (held t x) ≡ ps
    unfolding pattern_of
    pattern-at d = ap (λ (w : Tally). listed w.progress.pivots) (come d)

    own-counts : ◌≡◌ {A = Counts} (record { steps = h.steps; mask = h.progress.mask; nonzero = h.progress.nonzero }) (counts_in h)
    own-counts = rw (g.recorded.mask, g.recorded.nonzero)

    pub ends_at : (p : WidePlace) → h.progress.place ≡ p → length v ≡ o.columns → SameIn y h v
        → Agrees o y h (solve_does (solved o ms zs (held t x))) p
    unfolding solved conclude
    ends_at (At s) e lv k = tt
    ends_at Short e lv k =
        let c = come (subst Ended (sym e) tt) in
        let b = same_blank ps (rw e at k) in
        rw (c, e, own-counts)
        (record {
          table = refl;
          zeros =
              all_known o.columns v (replicate o.columns 0) lv (length-replicate o.columns 0)
              (record { at = λ i a l. (b i a).1 ∙ sym (all-zero o.columns (i - 1)) });
          unwritten = all_known (length y) h.solution y g.long refl (record { at = λ i a l. (b i a).0 });
          says = refl;
        })
    ends_at Done e lv k =
        let c = come (subst Ended (sym e) tt) in
        let b = rw e at k in
        rw (c, e, own-counts)
        (record {
          table = refl;
          pivots = λ i is. sym (b.opened i is (omega arith));
          zeros = λ i a f. (b.others i a (λ is. absurd (false≢true (sym f ∙ is)))).1;
          unwritten = λ i a f. (b.others i a (λ is. absurd (false≢true (sym f ∙ is)))).0;
          says = refl;
        })

module _ (o : WideOrder) (sized : Sizes o) (t y : List ℕ) (cs : List Beside) where
  abbrev d : Host
  d = drive (begin o t y) cs

  -- 1. One call more, whatever is lent to it: it is refused and changes nothing, or the step of the record's place is done
  pub call_by_call : (c : Beside)
      → (drive (begin o t y) (cs ++ (c ∷ [])) ≡ host_after d c) × (order_in d ≡ o) × (Refused d c ⊎ ((s : Step) × Accepted d c s))
  call_by_call c = (last_by host_after (begin o t y) cs c, order-kept o sized t y cs, each-call d c)

  -- 2. The accepted calls and the draws lent to them are the sums over the pattern's list
  pub counted : Counted o (counts_in d) (pivots_in d) d.progress.place
  counted = counted-at o sized t y d (reached o sized t y cs) d.progress.place refl

  -- to whose steps an accepted call adds its own, at the end
  pub step_added : (c : Beside) (s : Step) → Accepted d c s → steps_of o (host_after d c).progress ≡ steps_of o d.progress ++ (s ∷ [])
  step_added c s a =
      ap (λ (h : Host). steps_of o h.progress) a.after
      ∙ steps_after o sized s a.place (reached o sized t y cs).standing (opened_in d c s)

  -- and so are the record's own counters, which match its place
  pub recorded : Recorded d × (matches d.progress ≡ true)
  recorded = let g = reached o sized t y cs in (g.recorded, (standing_so o d.progress g.standing).1)

  -- what `counts` told beforehand is enough
  pub enough_told : (length d.mask ≤ (wanted o).mask) × (length d.nonzero ≤ (wanted o).nonzero)
  enough_told = let w = within o sized t y d (reached o sized t y cs) in (w.1, w.2)

  module _ (x ms zs : List ℕ) (dm : Begins o.field d.mask ms) (dz : Begins o.field d.nonzero zs) where
    -- 3. The whole solve of the same first table, lent any solution of so many columns, on tapes that begin with the same draws, comes to the
    -- same end
    pub agrees : length x ≡ o.columns → Agrees o y d (solve_does (solved o ms zs (held t x))) d.progress.place
    agrees lx =
        let g = reached o sized t y cs in
        let r = g.solve x ms zs lx dm dz in
        ends_at o sized t y d g x ms zs r.0 r.1 d.progress.place refl r.2 r.3

    -- with the same pivots
    pub pattern : length x ≡ o.columns → Ended d.progress.place → pattern_of o ms zs (held t x) ≡ pivots_in d
    pattern lx e =
        let g = reached o sized t y cs in
        let r = g.solve x ms zs lx dm dz in
        pattern-at o sized t y d g x ms zs r.0 r.1 e

    pub agrees-call : solve_order o t (length x) (length ms) zs ≡ passed → Agrees o y d (solve_call o (held t x) ms zs) d.progress.place
    unfolding solve_call call
    agrees-call e = rw e (agrees (solvable o t (length x) (length ms) zs e).lent.room)

  -- and wherever the host is, "they write pivot places only"
  pub pivots_only : (c : ℕ) → 1 ≤ c → has (pivots_in d) c ≡ false → get_or d.solution (c - 1) 0 ≡ get_or y (c - 1) 0
  pivots_only c l f =
      let own : (ds : List ℕ) → Begins o.field ds ds = λ ds. record { at = λ i h. refl } in
      let r = (reached o sized t y cs).solve (replicate o.columns 0) d.mask d.nonzero (length-replicate o.columns 0) (own d.mask) (own d.nonzero) in
      (r.3.others c l (λ is. absurd (false≢true (sym f ∙ is)))).0

  -- 4. A refused call has one of those numbers, whatever it lends
  pub refused_by : (c : Beside) → Only possible d c
  refused_by c =
      only d c possible
      (each_number d.progress d.table d.solution c (sized_own o sized t y cs) (reached_own o sized t y cs).firm (reached_own o sized t y cs).fair
      (standing_so (order_in d) d.progress (reached_own o sized t y cs).standing))

  -- so no other is met: of the sizes 1, 2, 3 and 21, and 10, 19, 12 and 20
  pub never_other : (k : ℕ) → one_of k possible ≡ false → (c : Beside) → Never k d c
  unfolding Among
  never_other k n c l g e = false≢true (sym n ∙ (rw e at (refused_by c l g)))

  pub never_met : (c : Beside)
      → Never 1 d c × Never 2 d c × Never 3 d c × Never 21 d c × Never 10 d c × Never 19 d c × Never 12 d c × Never 20 d c
  unfolding one_of
  never_met c = (
    never_other 1 refl c,
    never_other 2 refl c,
    never_other 3 refl c,
    never_other 21 refl c,
    never_other 10 refl c,
    never_other 19 refl c,
    never_other 12 refl c,
    never_other 20 refl c,
  )
