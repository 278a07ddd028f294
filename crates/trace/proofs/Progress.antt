-- Demand 3 is never empty. From a fresh record and an admitted table every call that lends what its step asks for is accepted, and a host that
-- goes on so comes to an end, after 01's number of steps. And what the end of any run means.
-- Assumes nothing.
use mathlib.Core.List.{List}
use mathlib.Core.Logic.{◌⊎◌, inl, inr, ⊎_elim}
use mathlib.Core.Path.{◌≡◌, refl, sym, ap, ◌∙◌}
use Prim.Native.Nat.{ℕ, zero, suc, ◌+◌}
use native.Mathlib.Omega.{arith}
use lib.ListN.{length, take, drop, length-replicate, replicate}
use lib.Seq.{get_or-take, get_or-drop}
use Rattle.field.specs.Field.{draw, field_of}
use Rattle.course.specs.declared.Step.{Step}
use Rattle.course.specs.declared.Place.{Place}
use Rattle.course.specs.declared.Place.TheVariants.{At, Stopped, Done}
use Rattle.course.specs.declared.Order.{Order}
use Rattle.course.specs.StepList.{Sizes, step_list, mask_cost, nonzero_cost, full_mask, full_nonzero}
use Rattle.course.proofs.Along.{room_along}
use Rattle.walk.specs.declared.Ending.{Ending}
use Rattle.walk.specs.declared.Ending.TheVariants as E
use Rattle.walk.specs.Act.{held}
use Rattle.walk.specs.Walk.{solved}
use Rattle.meaning.specs.Meaning.{IsSolved, IsStopped, Means}
use Rattle.meaning.specs.Claims.{Given}
use Rattle.meaning.proofs.Meant.{meant}
use Rattle.verdict.specs.Told.{passed}
use Rattle.solver.specs.Refusals.{whole_table, solve_order, ended, cost_at, mask_at, nonzero_at}
use Rattle.verdict.specs.Calls.{gives}
use Rattle.solver.specs.Calls.{solve_does, solve_call}
use Rattle.solver.proofs.Ready.{Solvable, solvable}
use Rattle.trace.specs.Driving.{Beside, Begins, drive_by, calls_by, driven_by}
use Rattle.trace.specs.Trace.{Host, begin, host_after, drive, Refused, Accepted, counts_in, Agrees, Admitted, Fit, calls, driven, Supplies, Ended}
use Rattle.trace.proofs.Driving.{cut-more, cut_begins, part_long, padded, padded_begins, padded_drawn, next_by, all_by}
use Rattle.trace.proofs.Admitted.{step_passes}
use Rattle.trace.proofs.Call.{verdict, accepted_call, each-call}
use Rattle.trace.proofs.Reached.{reached, order-kept}
use Rattle.trace.proofs.Trace.{placed_at, agrees, agrees-call}

module _ (o : Order) (sized : Sizes o) (t y : List ℕ) where
  abbrev first : Host
  first = begin o t y

  -- 5. Whatever calls came before: a call that is fit for the step at the record's place is accepted
  module _ (admitted : Admitted o t y) (cs : List Beside) where
    abbrev d : Host
    d = drive first cs

    fit_passes : (c : Beside) (s : Step) → d.progress.place ≡ At s → Fit o s c → verdict d c ≡ passed
    unfolding ended cost_at
    fit_passes c s e f =
        let g = reached o sized t y cs in
        let a : Admitted o d.table d.solution = g.admitted admitted in
        let k = order-kept o sized t y cs in
        let field : d.progress.field ≡ o.field = ap (λ (r : Order). r.field) k in
        let size : d.progress.size ≡ o.size = ap (λ (r : Order). r.size) k in
        step_passes d.progress (rw k sized) d.table (rw k a.whole) (rw field a.elements) d.solution (length c.mask) c.nonzero
        (rw size (placed_at o t y d g d.progress.place refl)) g.matched (rw e) (rw k g.fair) (rw k g.firm)
        (rw size a.places) (rw (k, e) f.mask) (rw (k, e) f.nonzero) (rw field f.drawn)

    pub accepted : (c : Beside) (s : Step) → d.progress.place ≡ At s → Fit o s c → Accepted d c s
    accepted c s e f =
        let a = accepted_call d c (fit_passes c s e f) in
        let p = a.1.place in
        let same : a.0 ≡ s = cc in
        rw same at a.1

  -- a host that goes on with fit calls
  module _ (admitted : Admitted o t y) (lend : Host → Beside) (supplies : Supplies o first lend) where
    pub supplied : (k : ℕ) (s : Step) → (driven lend k first).progress.place ≡ At s → Accepted (driven lend k first) (lend (driven lend k first)) s
    unfolding driven_by
    supplied k s e = accepted admitted (calls lend k first) (lend (drive first (calls lend k first))) s e (supplies.fit k s e)

    -- an ended host stays as it is
    abbrev Going : Host → Type 0
    Going h = (r : Step) × (h.progress.place ≡ At r)

    stays : (k : ℕ) → (Going (driven lend k first) → ⊥) → host_after (driven lend k first) (lend (driven lend k first)) ≡ driven lend k first
    stays k ended =
        ⊎_elim (λ (r : Refused (driven lend k first) (lend (driven lend k first))). r.after)
        (λ (r : (s : Step) × Accepted (driven lend k first) (lend (driven lend k first)) s). absurd (ended (r.0, r.1.place)))
        (each-call (driven lend k first) (lend (driven lend k first)))

    goes : (p : Place) → ((r : Step) × (p ≡ At r)) ⊎ (((r : Step) × (p ≡ At r)) → ⊥)
    goes (At s) = inl (s, refl)
    goes (Stopped j) = inr (λ r. let e = r.1 in let z : ◌≡◌ {A = ℕ} 0 1 = cc in omega arith)
    goes Done = inr (λ r. let e = r.1 in let z : ◌≡◌ {A = ℕ} 0 1 = cc in omega arith)

    -- at a step, every call so far was accepted
    all_accepted : (k : ℕ) (s : Step) → (driven lend k first).progress.place ≡ At s → (driven lend k first).steps ≡ k
    all_accepted k s e =
        all_by host_after lend first Going (λ h. h.steps) refl (λ k. goes (driven lend k first).progress.place)
        (λ k r. ap (λ (h : Host). h.steps) (supplied k r.0 r.1).after) stays k (s, e)

    ends : (p : Place) → (driven lend (length (step_list o.size)) first).progress.place ≡ p → Ended p
    unfolding driven_by
    ends (At s) e =
        let k : ℕ = length (step_list o.size) in
        let g = reached o sized t y (calls lend k first) in
        let r = room_along o (rw e at g.along) in
        omega (arith, r.0, all_accepted k s e)
    ends (Stopped j) e = tt
    ends Done e = tt

    -- it is stopped or done after no more calls than the list has steps; how many of them were accepted is `counted`
    pub reaches : Ended (driven lend (length (step_list o.size)) first).progress.place
    reaches = ends (driven lend (length (step_list o.size)) first).progress.place refl

-- ---- every whole solve has such a run

-- the parts of a solve's tapes that the record's place asks for, from where the host has come to
abbrev cut : Order → List ℕ → List ℕ → Host → Beside
cut o ms zs h =
    record {
      mask = take (mask_at o h.progress.place) (drop (length h.mask) ms);
      nonzero = take (nonzero_at o h.progress.place) (drop (length h.nonzero) zs);
    }

module _ (o : Order) (t y ms zs : List ℕ) (passes : solve_order o t (length y) (length ms) zs ≡ passed) where
  checked : Solvable o t (length y) (length ms) zs
  checked = solvable o t (length y) (length ms) zs passes

  abbrev fresh : Host
  fresh = begin o t y

  cut_fits : Supplies o fresh (cut o ms zs)
  unfolding driven_by cost_at
  cut_fits = record { fit = fits }
    where
      fits : (k : ℕ) (s : Step) → (driven (cut o ms zs) k fresh).progress.place ≡ At s → Fit o s (cut o ms zs (driven (cut o ms zs) k fresh))
      fits k s e =
          let h : Host = driven (cut o ms zs) k fresh in
          let g = reached o checked.sizes t y (calls (cut o ms zs) k fresh) in
          let r = room_along o (rw e at g.along) in
          rw e
          (record {
            mask = part_long (length h.mask) (mask_cost o s) (full_mask o) ms r.1 checked.tapes.masks;
            nonzero = part_long (length h.nonzero) (nonzero_cost o s) (full_nonzero o) zs r.2 checked.tapes.others;
            drawn = λ i l z.
                let long = part_long (length h.nonzero) (nonzero_cost o s) (full_nonzero o) zs r.2 checked.tapes.others in
                checked.tapes.drawn (length h.nonzero + i) (omega (arith, r.2))
                (ap (draw (field_of o.field))
                (sym (get_or-take (nonzero_cost o s) (drop (length h.nonzero) zs) i 0 (omega arith) ∙ get_or-drop (length h.nonzero) zs i 0)) ∙ z);
          })

  -- what the host has lent is what the tapes begin with
  record Cut (h : Host) : Type 0 where
    mask : h.mask ≡ take (length h.mask) ms
    nonzero : h.nonzero ≡ take (length h.nonzero) zs

  cut-driven : (h : Host) → Cut h → Cut (host_after h (cut o ms zs h))
  cut-driven h b =
      ⊎_elim (λ (r : Refused h (cut o ms zs h)). rw r.after b)
      (λ (r : (s : Step) × Accepted h (cut o ms zs h) s).
      rw r.1.after (record { mask = cut-more h.mask ms (mask_at o h.progress.place) b.mask; nonzero = cut-more h.nonzero zs (nonzero_at o h.progress.place) b.nonzero }))
      (each-call h (cut o ms zs h))

  cuts : (k : ℕ) → Cut (driven (cut o ms zs) k fresh)
  unfolding driven_by calls_by drive_by
  cuts zero = record { mask = refl; nonzero = refl }
  cuts (suc k) =
      rw (next_by host_after (cut o ms zs) fresh k) (cut-driven (driven (cut o ms zs) k fresh) (cuts k))

  -- For every solve that is admitted: step calls that are lent the tapes part by part, each what the record's place asks for, all accepted up
  -- to the end (`supplied`), come to the solve's end. So `agrees` speaks of every solve
  pub as_solve : (cs : List Beside) × Ended (drive fresh cs).progress.place
      × Agrees (drive fresh cs) (solve_call o (held t y) ms zs) (drive fresh cs).progress.place
  unfolding driven_by
  as_solve =
      let k : ℕ = length (step_list o.size) in
      let cs : List Beside = calls (cut o ms zs) k fresh in
      let b = cuts k in
      let a : Admitted o t y = record { whole = checked.lent.whole; elements = checked.lent.elements; places = checked.lent.room } in (
        cs,
        reaches o checked.sizes t y a (cut o ms zs) cut_fits,
        agrees-call o checked.sizes t y cs y ms zs (cut_begins o.field (drive fresh cs).mask ms b.mask) (cut_begins o.field (drive fresh cs).nonzero zs b.nonzero) passes,
      )

  -- and their draws are those that the tapes begin with
  pub as_solve-draws : Begins o.field (drive fresh as_solve.0).mask ms × Begins o.field (drive fresh as_solve.0).nonzero zs
  unfolding as_solve driven_by
  as_solve-draws =
      let b = cuts (length (step_list o.size)) in (cut_begins o.field _ ms b.mask, cut_begins o.field _ zs b.nonzero)

-- ---- what the end of a run means

module _ (o : Order) (sized : Sizes o) (t y : List ℕ) (cs : List Beside) (whole : length t ≡ whole_table o) where
  abbrev end : Host
  end = drive (begin o t y) cs

  -- the host's nonzero draws, and ones behind them
  abbrev tape : List ℕ
  tape = padded end.nonzero (full_nonzero o)

  lent : (x : List ℕ) → length x ≡ o.size → Given o tape t x
  lent x l = record { sizes = sized; table = whole; solution = l; nonzero = padded_drawn o.field end.nonzero (full_nonzero o) (reached o sized t y cs).drawn }

  same_draws : Begins o.field end.mask end.mask
  same_draws = record { at = λ i h. refl }

  -- what the solve on the host's draws comes to
  agreed : (x : List ℕ) → length x ≡ o.size → Agrees end (solve_does (solved o end.mask tape (held t x))) end.progress.place
  agreed x l = agrees o sized t y cs x end.mask tape same_draws (padded_begins o.field end.nonzero (full_nonzero o)) l

  means_stopped : (x : List ℕ) (a : Ending) (j : ℕ) → gives a ≡ gives (E.Stopped j (counts_in end)) → (v : List ℕ) → Means o t a v → IsStopped o t j
  means_stopped x a j e v m = let same : a ≡ E.Stopped j (counts_in end) = cc in rw same at m

  -- 6. At stopped(j) column j is the first that the columns before it combine to
  pub stopped_means : (j : ℕ) → end.progress.place ≡ Stopped j → IsStopped o t j
  stopped_means j e =
      let x : List ℕ = replicate o.size 0 in
      let l = length-replicate {A = ℕ} o.size 0 in
      means_stopped x (solved o end.mask tape (held t x)).answer j (rw e at (agreed x l)).1 _ (meant o end.mask tape t x (lent x l))

  means_solved : (a : Ending) → gives a ≡ gives (E.Solved (counts_in end)) → (v : List ℕ) → Means o t a v → IsSolved o t v
  means_solved a e v m = let same : a ≡ E.Solved (counts_in end) = cc in rw same at m

  -- and at done the host's solution is the one
  pub done_means : end.progress.place ≡ Done → IsSolved o t end.solution
  done_means e =
      let x : List ℕ = replicate o.size 0 in
      let l = length-replicate {A = ℕ} o.size 0 in
      let a = rw e at (agreed x l) in
      rw a.1 at (means_solved (solved o end.mask tape (held t x)).answer a.2 _ (meant o end.mask tape t x (lent x l)))
