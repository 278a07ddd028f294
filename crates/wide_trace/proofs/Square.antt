-- On a square system the wide calls do what the square ones do, share for share, up to the square's stop: a wide host and a square host that make the
-- same calls have the same table, solution and draws. So where the base's whole solve is solved, the wide one on tapes that begin with the same
-- draws leaves the same table and the same x, and reports the same counts.
-- Assumes nothing.
use mathlib.Core.Bool.{true}
use mathlib.Core.List.{List, [], ◌∷◌, ◌++◌, append-nil, append_assoc}
use mathlib.Core.Logic.{inl, ⊎_elim}
use mathlib.Core.Path.{◌≡◌, refl, sym, ap, ◌∙◌, subst}
use Prim.Native.Nat.{ℕ, ◌+◌}
use native.Mathlib.Omega.{arith}
use lib.ListN.{length}
use Rattle.field.specs.Field.{field_of}
use Rattle.sharing.specs.Lists.{SameDraws}
use Rattle.course.specs.declared.Step.{Step}
use Rattle.course.specs.declared.Place.{Place}
use Rattle.course.specs.declared.Place.TheVariants as Square
use Rattle.course.specs.declared.Order.{Order}
use Rattle.course.specs.declared.Counts.{Counts}
use Rattle.course.specs.declared.Draws.{Draws}
use Rattle.course.specs.StepList as L
use Rattle.course.specs.Next as Base
use Rattle.course.proofs.Within.{Within, within}
use Rattle.course.proofs.Along.{Calm}
use Rattle.walk.specs.Act as A
use Rattle.walk.specs.declared.Ending.TheVariants as Ended
use Rattle.pattern.specs.declared.WideOrder.{WideOrder}
use Rattle.pattern.specs.declared.WidePlace.TheVariants.{At}
use Rattle.pattern.specs.Pivots.{row_of}
use Rattle.pattern.specs.PatternList.{Sizes, cost_of}
use Rattle.pattern.specs.Next.{start_of, following}
use Rattle.pattern.proofs.Standing.{found_after}
use Rattle.wide_walk.specs.declared.WideEnding.TheVariants as E
use Rattle.wide_walk.specs.WideWalk.{opened, acted}
use Rattle.wide_meaning.specs.WideMeaning.{square_of}
use Rattle.wide_meaning.proofs.Square.{square}
use Rattle.verdict.specs.Told.{passed}
use Rattle.verdict.specs.Calls.{gives, call}
use Rattle.solver.specs.Refusals as BaseRefusals
use Rattle.solver.specs.Calls as BaseCalls
use Rattle.solver.proofs.Ready as BaseReady
use Rattle.solver.proofs.Meaning as BaseMeaning
use Rattle.wide.specs.WideRefusals.{solve_order}
use Rattle.wide.specs.WideCalls.{solve_call}
use Rattle.wide.proofs.Ready.{Solvable, solvable}
use Rattle.wide.proofs.Meaning.{lending}
use Rattle.trace.specs.Driving.{Beside, NoneZero, Begins, drive_by}
use Rattle.trace.proofs.Driving.{last_by}
use Rattle.trace.specs.Trace as S
use Rattle.trace.proofs.Call as C
use Rattle.trace.proofs.Reached as R
use Rattle.trace.proofs.Trace as T
use Rattle.trace.proofs.Progress as P
use Rattle.wide_trace.specs.WideTrace.{Host, begin, lends, host_after, drive, order_in, pivots_in, opened_in, stepped, Refused, Accepted, Agrees, Admitted}
use Rattle.wide_trace.specs.WideSquare.{first_columns, wide_at, found_before, found_at, Alike}
use Rattle.wide_trace.proofs.Call.{each-call}
use Rattle.wide_trace.proofs.Reached.{order-kept, reached_own, sized_own, found, next}
use Rattle.wide_trace.proofs.Run.{agrees-call}
use Rattle.wide_trace.proofs.Progress.{accepted}
use Rattle.wide_trace.proofs.Columns.{step_row, next-column, next_alike}

-- ---- one step

module _ (o : WideOrder) (same : o.columns ≡ o.rows) (ps : List ℕ) (s : Step) (row : row_of ps (L.column_of s) ≡ L.column_of s) where
  opened_same : (ds : List ℕ) (h : A.Held) → opened o ps s ds h ≡ A.opened (square_of o) s ds h
  unfolding opened A.opened
  opened_same ds h = rw (row, same)

  acted_same : (ds nz : List ℕ) (h : A.Held) → acted o ps s ds nz h ≡ A.acted (square_of o) s ds nz h
  unfolding acted A.acted
  acted_same ds nz h = rw (row, same)

cost_same : (o : WideOrder) → o.columns ≡ o.rows → (s : Step) → cost_of o s ≡ L.cost_of (square_of o) s
unfolding cost_of L.cost_of
cost_same o same s = rw same

-- a wide place that is a step is the square's, where that has not stopped
step-at : (m : ℕ) (s : Step) (p : Place) → Calm p → At s ≡ wide_at m p → p ≡ Square.At s
step-at m s (Square.At r) c e = cc
step-at m s (Square.Stopped j) c e = absurd c
step-at m s Square.Done c e = let z : ◌≡◌ {A = ℕ} 0 1 = cc in absurd (let n : ⊥ = omega arith in n)

-- ---- the two hosts

module _ (o : WideOrder) (sized : Sizes o) (same : o.columns ≡ o.rows) (t y : List ℕ) (admitted : Admitted o t y) where
  abbrev base : Order
  base = square_of o

  sized_base : L.Sizes base
  sized_base = record { field = inl sized.field; two = sized.two; four = sized.four; some = sized.some; most = sized.most }

  admitted_base : S.Admitted base t y
  admitted_base = record { whole = rw same at admitted.whole; elements = admitted.elements; places = admitted.places ∙ same }

  abbrev square_host : List Beside → S.Host
  square_host cs = S.drive (S.begin base t y) cs

  abbrev wide_host : List Beside → Host
  wide_host cs = drive (begin o t y) cs

  module _ (cs : List Beside) (calm : Calm (square_host cs).progress.place) (al : Alike o.rows (square_host cs) (wide_host cs)) (c : Beside) where
    abbrev h : S.Host
    h = square_host cs

    abbrev w : Host
    w = wide_host cs

    own : order_in w ≡ o
    own = order-kept o sized t y cs

    own-base : S.order_in h ≡ base
    own-base = R.order-kept base sized_base t y cs

    -- both do the step of the place
    module _ (s : Step) (a : S.Accepted h c s) (b : Accepted w c s) where
      inside : Within o.rows s
      inside = within o.rows s (subst (λ (r : Order). L.in_list r.size s ≡ true) own-base a.listed)

      abbrev ps : List ℕ
      ps = first_columns (found_before o.rows s)

      pivots : pivots_in w ≡ ps
      pivots = al.pivots ∙ ap (λ (p : Place). first_columns (found_at o.rows p)) a.place

      row : row_of ps (L.column_of s) ≡ L.column_of s
      row = step_row o.rows s inside

      abbrev u : ℕ
      u = S.opened_in h c s

      opens : opened_in w c s ≡ u
      opens =
          let e : opened (order_in w) (pivots_in w) s c.mask (lends w) ≡ opened o ps s c.mask (S.lends h) =
          let q = al.table in let r = al.solution in let f = own in let g = pivots in cc in
          e ∙ opened_same o same ps s row c.mask (S.lends h) ∙ ap (λ (r : Order). A.opened r s c.mask (S.lends h)) (sym own-base)

      leaves : acted (order_in w) (pivots_in w) s c.mask c.nonzero (lends w) ≡ A.acted (S.order_in h) s c.mask c.nonzero (S.lends h)
      leaves =
          let e : acted (order_in w) (pivots_in w) s c.mask c.nonzero (lends w) ≡ acted o ps s c.mask c.nonzero (S.lends h) =
          let q = al.table in let r = al.solution in let f = own in let g = pivots in cc in
          e ∙ acted_same o same ps s row c.mask c.nonzero (S.lends h)
          ∙ ap (λ (r : Order). A.acted r s c.mask c.nonzero (S.lends h)) (sym own-base)

      next-base : (S.stepped h c s).progress.place ≡ Base.following o.rows s u
      next-base = ap (λ (r : Order). Base.following r.size s u) own-base

      found_wide : pivots_in (stepped w c s) ≡ found_after s u ps
      found_wide =
          found t y w c s (sized_own o sized t y cs) b (reached_own o sized t y cs)
          ∙ (let e = opens in let g = pivots in cc)

      next_wide : (stepped w c s).progress.place ≡ following o.rows o.rows (found_after s u ps) s u
      next_wide =
          next t y w c s (sized_own o sized t y cs) b (reached_own o sized t y cs)
          ∙ ap (λ (r : WideOrder). following r.rows r.columns (found_after s (opened_in w c s) (pivots_in w)) s (opened_in w c s)) own
          ∙ ap (λ (k : ℕ). following o.rows k (found_after s (opened_in w c s) (pivots_in w)) s (opened_in w c s)) same
          ∙ (let e = opens in let g = pivots in cc)

      both-step : Alike o.rows (S.stepped h c s) (stepped w c s)
      both-step =
          let n = next_alike o.rows s inside u in
          record {
            table = ap (λ (l : A.Held). l.table) leaves;
            solution = let e = opens in let r = al.solution in cc;
            steps = ap (λ (k : ℕ). k + 1) al.steps;
            mask = ap (λ (l : List ℕ). l ++ c.mask) al.mask;
            nonzero = ap (λ (l : List ℕ). l ++ c.nonzero) al.nonzero;
            place = next_wide ∙ n.0 ∙ ap (wide_at o.rows) (sym next-base);
            pivots = found_wide ∙ n.1 ∙ ap (λ (p : Place). first_columns (found_at o.rows p)) (sym next-base);
          }

    -- a call that one of them accepts is fit, and so the other accepts it too
    not_alone : (s : Step) → S.Refused h c → Accepted w c s → ⊥
    not_alone s r b =
        let p = step-at o.rows s h.progress.place calm (sym b.place ∙ al.place) in
        let e = ap (λ (k : WideOrder). cost_of k s) own ∙ cost_same o same s in
        let a = P.accepted base sized_base t y admitted_base cs c s p
        (record {
          mask = b.mask ∙ ap (λ (d : Draws). d.mask) e;
          nonzero = b.nonzero ∙ ap (λ (d : Draws). d.nonzero) e;
          drawn = subst (λ (k : WideOrder). NoneZero k.field c.nonzero) own b.drawn;
        }) in
        let q = a.says in
        let n = r.says in
        let z : ◌≡◌ {A = ℕ} 0 1 = cc in
        omega arith

    not_without : (s : Step) → S.Accepted h c s → Refused w c → ⊥
    not_without s a r =
        let p = al.place ∙ ap (wide_at o.rows) a.place in
        let e = ap (λ (k : Order). L.cost_of k s) own-base ∙ sym (cost_same o same s) in
        let b = accepted o sized t y cs admitted c s p
        (record {
          mask = a.mask ∙ ap (λ (d : Draws). d.mask) e;
          nonzero = a.nonzero ∙ ap (λ (d : Draws). d.nonzero) e;
          drawn = subst (λ (k : Order). NoneZero k.field c.nonzero) own-base a.drawn;
        }) in
        let q = b.says in
        let n = r.says in
        let z : ◌≡◌ {A = ℕ} 0 1 = cc in
        omega arith

    one_step : (s r : Step) → S.Accepted h c s → Accepted w c r → Alike o.rows (S.stepped h c s) (stepped w c r)
    one_step s r a b =
        let p = sym b.place ∙ al.place ∙ ap (wide_at o.rows) a.place in
        let e : s ≡ r = cc in
        subst (λ (q : Step). Alike o.rows (S.stepped h c s) (stepped w c q)) e (both-step s a (subst (Accepted w c) (sym e) b))

    -- one call more, whatever is lent to it
    step_alike : Alike o.rows (S.host_after h c) (host_after w c)
    step_alike =
        ⊎_elim
        (λ (r : S.Refused h c). ⊎_elim (λ (q : Refused w c). rw (r.after, q.after) al)
        (λ (q : (s : Step) × Accepted w c s). absurd (not_alone q.0 r q.1)) (each-call w c))
        (λ (r : (s : Step) × S.Accepted h c s). ⊎_elim (λ (q : Refused w c). absurd (not_without r.0 r.1 q))
        (λ (q : (s : Step) × Accepted w c s). rw (r.1.after, q.1.after) (one_step r.0 q.0 r.1 q.1)) (each-call w c))
        (C.each-call h c)

  -- ---- any calls

  start_alike : Alike o.rows (square_host []) (wide_host [])
  unfolding drive_by start_of Base.start_of first_columns
  start_alike =
      let n = next-column o.rows 0 (omega (arith, sized.some)) in
      record {
        table = refl;
        solution = refl;
        steps = refl;
        mask = refl;
        nonzero = refl;
        place = rw same n.0;
        pivots = n.1;
      }

  -- a host that is stopped stays so
  was_calm : (p : Place) (h : S.Host) (c : Beside) → h.progress.place ≡ p → Calm (S.host_after h c).progress.place → Calm p
  was_calm (Square.At s) h c e d = tt
  was_calm (Square.Stopped j) h c e d =
      ⊎_elim (λ (r : S.Refused h c). rw (r.after, e) at d)
      (λ (r : (s : Step) × S.Accepted h c s). let q = r.1.place in let z : ◌≡◌ {A = ℕ} 0 1 = cc in let n : ⊥ = omega arith in absurd n) (C.each-call h c)
  was_calm Square.Done h c e d = tt

  -- from a run of calls to the run with one more
  onward : (bs cs : List Beside) → (Calm (square_host bs).progress.place → Alike o.rows (square_host bs) (wide_host bs))
      → Calm (square_host (bs ++ cs)).progress.place → Alike o.rows (square_host (bs ++ cs)) (wide_host (bs ++ cs))
  onward bs [] a = rw (append-nil bs) a
  onward bs (c ∷ cs) a =
      let e : bs ++ (c ∷ cs) ≡ (bs ++ (c ∷ [])) ++ cs = sym (append_assoc bs (c ∷ []) cs) in
      rw e (onward (bs ++ (c ∷ [])) cs more)
    where
      more : Calm (square_host (bs ++ (c ∷ []))).progress.place → Alike o.rows (square_host (bs ++ (c ∷ []))) (wide_host (bs ++ (c ∷ [])))
      more d =
          let p = last_by S.host_after (S.begin base t y) bs c in
          let q = last_by host_after (begin o t y) bs c in
          let calm = was_calm (square_host bs).progress.place (square_host bs) c refl (rw p at d) in
          rw (p, q) (step_alike bs calm (a calm) c)

  -- The same calls leave both hosts alike, so long as the square one has not stopped
  pub square-run : (cs : List Beside) → Calm (square_host cs).progress.place → Alike o.rows (square_host cs) (wide_host cs)
  square-run cs = onward [] cs (λ d. start_alike)

  -- and after the call at which it stops
  pub square-next : (cs : List Beside) → Calm (square_host cs).progress.place → (c : Beside)
      → Alike o.rows (square_host (cs ++ (c ∷ []))) (wide_host (cs ++ (c ∷ [])))
  square-next cs d c =
      rw (last_by S.host_after (S.begin base t y) cs c, last_by host_after (begin o t y) cs c) (step_alike cs d (square-run cs d) c)

-- ---- the whole solves

both-held : (a b : A.Held) → a.table ≡ b.table → a.solution ≡ b.solution → a ≡ b
both-held a b p q = ap (λ (l : List ℕ). A.held l a.solution) p ∙ ap (A.held b.table) q

-- a tape that begins with ds has them where another has the same first draws
begins_other : (f : ℕ) (ds tape other : List ℕ) (n : ℕ) → length ds ≡ n → Begins f ds tape → SameDraws (field_of f) n tape other → Begins f ds other
begins_other f ds tape other n l b d = record { at = λ i h. b.at i h ∙ d.at i (omega arith) }

module _ (o : WideOrder) (same : o.columns ≡ o.rows) (t x y ms zs ns ys : List ℕ) (passes : solve_order o t (length x) (length ms) zs ≡ passed)
    (passes-base : BaseRefusals.solve_order (square_of o) t (length y) (length ns) ys ≡ passed)
    (masks : SameDraws (field_of o.field) (L.full_mask (square_of o)) ns ms)
    (others : SameDraws (field_of o.field) (L.full_nonzero (square_of o)) ys zs) where
  checked : Solvable o t (length x) (length ms) zs
  checked = solvable o t (length x) (length ms) zs passes

  checked_base : BaseReady.Solvable (square_of o) t (length y) (length ns) ys
  checked_base = BaseReady.solvable (square_of o) t (length y) (length ns) ys passes-base

  admits : Admitted o t y
  admits =
      record { whole = checked.lent.whole; elements = checked.lent.elements; places = checked_base.lent.room ∙ sym same }

  -- step calls that come to the end of the base's solve
  calls : List Beside
  calls = (P.as_solve (square_of o) t y ns ys passes-base).0

  abbrev d : S.Host
  d = S.drive (S.begin (square_of o) t y) calls

  abbrev e : Host
  e = drive (begin o t y) calls

  same_solution : (solve_call o (A.held t x) ms zs).left.solution ≡ (BaseCalls.solve_call (square_of o) (A.held t y) ns ys).left.solution
  unfolding solve_call BaseCalls.solve_call call
  same_solution =
      rw (passes, passes-base)
      (square o same ms zs t x ns ys y (lending o t x ms zs checked) (BaseMeaning.lending (square_of o) t y ns ys checked_base)).1

  -- at the end of the base's, where it is solved
  at_done : d.progress.place ≡ Square.Done
      → ((solve_call o (A.held t x) ms zs).left.table ≡ d.table) × ((solve_call o (A.held t x) ms zs).says ≡ gives (E.Solved (S.counts_in d)))
  unfolding calls L.sums
  at_done q =
      let sizes = checked.sizes in
      let al = square-run o sizes same t y admits calls (subst Calm (sym q) tt) in
      let b = P.as_solve-draws (square_of o) t y ns ys passes-base in
      let n = subst (S.Counted (square_of o) (S.counts_in d)) q (T.counted (square_of o) checked_base.sizes t y calls) in
      let m = subst (λ (l : List ℕ). Begins o.field l ms) (sym al.mask) (begins_other o.field d.mask ns ms _ (ap (λ (k : Counts). k.mask) n) b.0 masks) in
      let z = subst (λ (l : List ℕ). Begins o.field l zs) (sym al.nonzero) (begins_other o.field d.nonzero ys zs _ (ap (λ (k : Counts). k.nonzero) n) b.1 others) in
      let r = subst (Agrees o y e (solve_call o (A.held t x) ms zs)) (al.place ∙ ap (wide_at o.rows) q) (agrees-call o sizes t y calls x ms zs m z passes) in (
        r.table ∙ al.table,
        r.says ∙ (let i = al.steps in let j = al.mask in let k = al.nonzero in cc),
      )

  -- what the base's solve says and leaves there
  by_place : (p : Place) → d.progress.place ≡ p → S.Ended p → S.Agrees d (BaseCalls.solve_call (square_of o) (A.held t y) ns ys) p → (c : Counts)
      → (BaseCalls.solve_call (square_of o) (A.held t y) ns ys).says ≡ gives (Ended.Solved c)
      → ((solve_call o (A.held t x) ms zs).left ≡ (BaseCalls.solve_call (square_of o) (A.held t y) ns ys).left)
      × ((solve_call o (A.held t x) ms zs).says ≡ gives (E.Solved c))
  by_place (Square.At s) q n a c g = absurd n
  by_place (Square.Stopped j) q n a c g =
      let i = a.1 in
      let z : ◌≡◌ {A = ℕ} 0 1 = cc in
      absurd (let n : ⊥ = omega arith in n)
  by_place Square.Done q n a c g =
      let r = at_done q in
      let i = a.2 in
      let j : S.counts_in d ≡ c = cc in
      (both-held _ _ (r.0 ∙ sym a.0) same_solution, r.1 ∙ ap (λ (k : Counts). gives (E.Solved k)) j)

  -- "On a square system it [..] solves to the same x": where the base's whole solve is solved, the wide one leaves the same table, share for share,
  -- and the same x, and reports the same counts
  pub wide_square : (c : Counts) → (BaseCalls.solve_call (square_of o) (A.held t y) ns ys).says ≡ gives (Ended.Solved c)
      → ((solve_call o (A.held t x) ms zs).left ≡ (BaseCalls.solve_call (square_of o) (A.held t y) ns ys).left)
      × ((solve_call o (A.held t x) ms zs).says ≡ gives (E.Solved c))
  unfolding calls
  wide_square c g =
      let s = P.as_solve (square_of o) t y ns ys passes-base in by_place d.progress.place refl s.1 s.2 c g
