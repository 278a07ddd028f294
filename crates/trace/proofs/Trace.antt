-- Demand 3: what a host does by step calls, however many and with refused ones among them, and the whole solve are one and the same. `o` is
-- an order of right sizes, t any first table, y any first solution, and cs any calls from a record of Start.
-- Assumes nothing.
use mathlib.Core.Bool.{true, not, false≢true}
use mathlib.Core.List.{List, [], ◌∷◌, ◌++◌}
use mathlib.Core.Logic.{◌⊎◌, inl, inr}
use mathlib.Core.Path.{◌≡◌, refl, sym, ap, ◌∙◌, subst}
use Prim.Native.Nat.{ℕ}
use lib.ListN.{length, get_or}
use borrow.Author.Tests.{le-ltb}
use Rattle.course.specs.declared.Step.{Step}
use Rattle.course.specs.declared.Place.{Place}
use Rattle.course.specs.declared.Place.TheVariants.{At, Stopped, Done}
use Rattle.course.specs.declared.Order.{Order}
use Rattle.course.specs.StepList.{Sizes, step_list}
use Rattle.course.specs.Next.{counted as matches}
use Rattle.course.proofs.Along.{Along, first, none, along_in, stop_in, counted_done, counted_stop}
use Rattle.walk.specs.Act.{held}
use Rattle.walk.specs.Walk.{Course, running, course_of, walk, fresh, conclude, solved}
use Rattle.verdict.specs.Told.{Told, passed}
use Rattle.verdict.specs.Refusals.{outside}
use Rattle.solver.specs.Refusals.{placed, no10, no12, no19, solve_order}
use Rattle.verdict.specs.Calls.{call}
use Rattle.solver.specs.Calls.{solve_does, solve_call}
use Rattle.solver.proofs.Ready.{solvable}
use Rattle.trace.specs.Driving.{Beside, Begins}
use Rattle.trace.specs.Trace.{Host, begin, host_after, drive, order_in, Refused, Accepted, counts_in, Counted, Recorded, Agrees, Only, possible, Never}
use Rattle.verdict.proofs.Passes.{unmet, one_passes, two_passes, three_passes}
use Rattle.trace.specs.Numbers.{one_of, Among}
use Rattle.trace.proofs.Numbers.{checks, Each, ◌also◌, by_number, not_given, given}
use Rattle.trace.proofs.Driving.{last_by}
use Rattle.trace.proofs.Call.{each-call, refusal}
use Rattle.walk.proofs.Walked.{walk-append, walk-stopped}
use Rattle.trace.proofs.Own.{known_from, SameFrom, all_known}
use Rattle.trace.proofs.Reached.{tally_of, Reached, reached, order-kept}

-- the checks of a call, each at its number
abbrev pub checks_of : Host → Beside → List Told
checks_of h c = checks h.progress h.table h.solution (length c.mask) c.nonzero

-- a number whose check passes is not given
pub never : (h : Host) (c : Beside) (k : ℕ) → get_or (checks_of h c) k passed ≡ passed → Never k h c
never h c k e l g =
    not_given (checks_of h c) (by_number h.progress h.table h.solution (length c.mask) c.nonzero) k e l (refusal h c l g)

-- what is given is one of some numbers, where the check of each other number passes
only : (h : Host) (c : Beside) (ns : List ℕ) → Each (λ k. one_of k ns ≡ true) (checks_of h c) → Only ns h c
unfolding Among
only h c ns each l g =
    given (checks_of h c) (by_number h.progress h.table h.solution (length c.mask) c.nonzero) (λ k. one_of k ns ≡ true) each l
    (refusal h c l g)

-- a run is its calls one by one
pub last-call : (h : Host) (cs : List Beside) (c : Beside) → drive h (cs ++ (c ∷ [])) ≡ host_after (drive h cs) c
last-call h cs c = last_by host_after h cs c

-- what a host that is reached has, by its place
module _ (o : Order) (t y : List ℕ) (h : Host) (g : Reached o t y h) where
  pub counted-at : (p : Place) → h.progress.place ≡ p → Counted o (counts_in h) p
  counted-at (At s) e =
      let f = first o.size s g.along.rest (rw e at g.along.leads) in
      (g.steps, f.0, g.whole (s ∷ f.0) (rw e (refl, f.2)), g.counts)
  counted-at (Stopped j) e =
      let a : Along o (Stopped j) h.steps (length h.mask) (length h.nonzero) = rw e at g.along in
      let w = stop_in o a in
      (w.0, w.1, counted_stop o a)
  counted-at Done e = counted_done o (rw e at g.along)

  pub placed_at : (p : Place) → h.progress.place ≡ p → placed o.size p ≡ true
  unfolding placed outside
  placed_at (At s) e = along_in o (rw e at g.along)
  placed_at (Stopped j) e =
      let w = stop_in o (rw e at g.along) in
      rw (le-ltb j 1 w.0, le-ltb o.size j w.1)
  placed_at Done e = refl

  module _ (x ms zs : List ℕ) (lx : length x ≡ o.size) (dm : Begins o.field h.mask ms) (dz : Begins o.field h.nonzero zs) where
    abbrev goal : Course
    goal = walk o ms zs (step_list o.size) (running (fresh (held t x)))

    -- the solve goes on from where the host is
    pub onward : (v : List ℕ) × (goal ≡ walk o ms zs g.along.rest (course_of h.progress.place (tally_of h v)))
        × (length v ≡ o.size) × SameFrom o.size (known_from o.size h.progress.place) h.solution v
    onward =
        let r = g.solve x ms zs lx dm dz in (
          r.0,
          ap (λ (l : List Step). walk o ms zs l (running (fresh (held t x)))) (g.whole g.along.rest g.along.leads)
              ∙ walk-append o ms zs g.steps g.along.rest (running (fresh (held t x)))
              ∙ ap (walk o ms zs g.along.rest) r.1,
          r.2,
          r.3,
        )

    -- at done the host has written its whole solution; so has the solve
    pub ends_at : (p : Place) → h.progress.place ≡ p → (v : List ℕ)
        → goal ≡ walk o ms zs g.along.rest (course_of h.progress.place (tally_of h v)) → (p ≡ Done → v ≡ h.solution)
        → Agrees h (solve_does (solved o ms zs (held t x))) p
    unfolding solved conclude walk
    ends_at (At s) e v w same = tt
    ends_at (Stopped j) e v w same = rw (w, e, walk-stopped o ms zs g.along.rest j (tally_of h v)) (refl, refl)
    ends_at Done e v w same = rw (w, e, none o.size g.along.rest (rw e at g.along.leads)) (refl, same refl, refl)

module _ (o : Order) (sized : Sizes o) (t y : List ℕ) (cs : List Beside) where
  abbrev d : Host
  d = drive (begin o t y) cs

  -- 1. One call more, whatever is lent to it: it is refused and changes nothing, or the step of the record's place is done
  pub call_by_call : (c : Beside)
      → (drive (begin o t y) (cs ++ (c ∷ [])) ≡ host_after d c) × (order_in d ≡ o) × (Refused d c ⊎ ((s : Step) × Accepted d c s))
  call_by_call c = (last-call (begin o t y) cs c, order-kept o sized t y cs, each-call d c)

  -- 2. The accepted calls and the draws lent to them are 01's sums
  pub counted : Counted o (counts_in d) d.progress.place
  counted = counted-at o t y d (reached o sized t y cs) d.progress.place refl

  -- and so are the record's own counters, which match its place
  pub recorded : Recorded d × (matches d.progress ≡ true)
  recorded = let g = reached o sized t y cs in (g.recorded, g.matched)

  module _ (x ms zs : List ℕ) (dm : Begins o.field d.mask ms) (dz : Begins o.field d.nonzero zs) where
    -- 3. The whole solve of the same first table, lent any solution of m bytes, on tapes that begin with the same draws, comes to the same end
    pub agrees : length x ≡ o.size → Agrees d (solve_does (solved o ms zs (held t x))) d.progress.place
    agrees lx =
        let g = reached o sized t y cs in
        let r = onward o t y d g x ms zs lx dm dz in
        ends_at o t y d g x ms zs lx dm dz d.progress.place refl r.0 r.1
        (λ e. sym (all_known o.size d.solution r.0 (g.places e) r.2
        (subst (λ (p : Place). SameFrom o.size (known_from o.size p) d.solution r.0) e r.3)))

    pub agrees-call : solve_order o t (length x) (length ms) zs ≡ passed → Agrees d (solve_call o (held t x) ms zs) d.progress.place
    unfolding solve_call call
    agrees-call e = rw e (agrees (solvable o t (length x) (length ms) zs e).lent.room)

  -- 4. A refused call has one of those numbers, whatever it lends. Each number from 0 on: its check passes, or it is one of them
  pub refused_by : (c : Beside) → Only possible d c
  unfolding Each one_of no10 no12 no19
  refused_by c =
      let g = reached o sized t y cs in
      only d c possible
      (rw (order-kept o sized t y cs)
      (inl refl
      also inl (one_passes o.field sized.field)
      also inl (two_passes o.shares sized.two sized.four)
      also inl (three_passes o.size sized.some sized.most)
      also inr refl
      also inr refl
      also inr refl
      also inr refl
      also inr refl
      also inr refl
      also inl (unmet 10 _ (ap not (placed_at o t y d g d.progress.place refl)))
      also inr refl
      also inl (unmet 12 _ g.firm)
      also inl refl
      also inr refl
      also inr refl
      also inl refl
      also inl refl
      also inl refl
      also inl (unmet 19 _ (ap not g.matched))
      also inl g.fair
      also tt))

  -- so refusals 10, 12, 19 and 20 are not met
  pub never_off_list : (c : Beside) → Never 10 d c
  unfolding one_of Among
  never_off_list c l g e = let z = rw e at (refused_by c l g) in false≢true z

  pub never_mismatched : (c : Beside) → Never 19 d c
  unfolding one_of Among
  never_mismatched c l g e = let z = rw e at (refused_by c l g) in false≢true z

  pub never_zero_pivot : (c : Beside) → Never 12 d c
  unfolding one_of Among
  never_zero_pivot c l g e = let z = rw e at (refused_by c l g) in false≢true z

  pub never_large_byte : (c : Beside) → Never 20 d c
  unfolding one_of Among
  never_large_byte c l g e = let z = rw e at (refused_by c l g) in false≢true z
