-- The answer of the whole wide solve is true of the equations that the shares add up to: its pivots are the columns that those before them don't
-- combine to, with a pivot in every row it is the single solution with zeros outside them, and otherwise it is short, whatever the shares and the
-- tapes are.
-- Assumes nothing.
use mathlib.Core.List.{List, []}
use mathlib.Core.Path.{◌≡◌, refl, sym, ap, ◌∙◌}
use Prim.Native.Nat.{ℕ, zero, suc, ◌+◌, ◌-◌, ◌<◌}
use native.Mathlib.Omega.{arith}
use lib.ListN.{length, drop, replicate, length-replicate, get_or-replicate}
use lib.Seq.{get_or-drop, ext_get_or}
use Rattle.field.specs.Field.{draw, field_of}
use Rattle.field.proofs.Fields.{field_of_lem}
use Rattle.sharing.specs.Rules.{draw_at}
use Rattle.algebra.specs.Linear.{Table}
use Rattle.algebra.specs.Wide.{pivot_at, WideLeft, WideMeans}
use Rattle.algebra.proofs.Outcome.{Small}
use Rattle.algebra.proofs.Column.{shape_start}
use Rattle.algebra.proofs.Pattern.{lists_self}
use Rattle.algebra.proofs.Wide.{found_with, short_with, opened_filled}
use Rattle.course.specs.declared.Step.{Step}
use Rattle.walk.specs.Act.{held}
use Rattle.pattern.specs.declared.WideOrder.{WideOrder}
use Rattle.pattern.specs.declared.WidePlace.{WidePlace}
use Rattle.pattern.specs.declared.WidePlace.TheVariants.{At, Short, Done}
use Rattle.pattern.specs.Pivots.{listed, ascends}
use Rattle.pattern.specs.PatternList.{Sizes, nonzero_cost}
use Rattle.pattern.specs.Next.{start_of, moved_on}
use Rattle.wide_walk.specs.WideWalk.{Tally, opened, spent, walk, most_steps, counts_of, ending_at, conclude, begun, ended, solved, pattern_of, Ended}
use Rattle.pattern.proofs.Moving.{listed_found, stood_at, room_at}
use Rattle.wide_walk.proofs.Walked.{Sound, sound_start, sound_turn, sound_end, end-ended}
use Rattle.wide_meaning.specs.WideMeaning.{value_of, answer_of, Means, NoZero, Given}
use Rattle.wide_meaning.proofs.Holding.{begins}
use Rattle.wide_meaning.proofs.Acting.{values_small, HoldsOf, acts}

abbrev HoldsAt : WideOrder → Table → Tally → Type 0
HoldsAt o T t = HoldsOf o T t.progress.place (listed t.progress.pivots) t.left

module _ (o : WideOrder) (z : Sizes o) (T : Table) (ms zs : List ℕ) where
  module _ (nonzero : NoZero o zs) where
    -- a step's nonzero draws are among those that the whole solve wants
    drawn : {t : Tally} (s : Step) → t.progress.place ≡ At s → Sound o t → (k : ℕ) → k < nonzero_cost o s
        → draw_at (field_of o.field) (drop t.progress.nonzero zs) k ≡ 0 → ⊥
    drawn {t} s e g k l q =
        nonzero (t.progress.nonzero + k) (omega (arith, (room_at o z s e g.standing).2))
        (ap (draw (field_of o.field)) (sym (get_or-drop t.progress.nonzero zs k 0)) ∙ q)

    -- a step is taken
    turn_by : {t : Tally} → Sound o t → (p : WidePlace) → t.progress.place ≡ p → HoldsOf o T p (listed t.progress.pivots) t.left
        → HoldsAt o T (spent ms zs p t)
    unfolding moved_on
    turn_by {t} g (At s) e a =
        let ps = listed t.progress.pivots in
        let ds = drop t.progress.mask ms in
        rw (g.standing.order, listed_found o z s (opened o ps s ds t.left) t.progress.pivots g.standing.kept g.standing.slots (stood_at o z s e g.standing))
        (acts o z T g.standing t.left g.table g.places ds (drop t.progress.nonzero zs) s e (drawn s e g) a)
    turn_by g Short e a = rw e a
    turn_by g Done e a = rw e a

    walk_holds : (n : ℕ) {t : Tally} → Sound o t → HoldsAt o T t → HoldsAt o T (walk ms zs n t)
    unfolding walk
    walk_holds zero g a = a
    walk_holds (suc n) {t} g a = walk_holds n (sound_turn o z ms zs g) (turn_by g t.progress.place refl a)

  -- from the values at an end to the answer
  means_at : Small (field_of o.field) T → (t : Tally) → Sound o t → (p : WidePlace) → t.progress.place ≡ p → Ended p
      → HoldsOf o T p (listed t.progress.pivots) t.left
      → WideMeans (field_of o.field) o.rows T o.columns (answer_of (ending_at p (counts_of t))) (listed t.progress.pivots) t.left.solution
  means_at small t g (At s) e d a = absurd d
  means_at small t g Short e d a =
      short_with (field_of o.field) (field_of_lem o.field) o.rows o.columns (omega arith) (rw e at g.standing.stood)
      (lists_self (listed t.progress.pivots) refl) a.0
  means_at small t g Done e d a =
      let every = lists_self (listed t.progress.pivots) (rw e at g.standing.stood) in
      found_with (field_of o.field) (field_of_lem o.field) o.rows o.columns small every a.shape
      (opened_filled (field_of o.field) o.rows o.columns every a.whole _ _ (λ i b c. a.opening.known i b c) a.zeros)

  left_at : (t : Tally) → Sound o t → (p : WidePlace) → Ended p → HoldsOf o T p (listed t.progress.pivots) t.left
      → WideLeft o.columns (answer_of (ending_at p (counts_of t))) t.left.solution
  left_at t g (At s) d a = absurd d
  left_at t g Short d a =
      ext_get_or 0 t.left.solution (replicate o.columns 0) (g.places ∙ sym (length-replicate o.columns 0))
      (λ i l.
      let n = g.places in
      let e : i + 1 - 1 ≡ i = omega arith in
      rw e at (a.1 (i + 1) (omega arith) (omega arith)) ∙ sym (get_or-replicate o.columns i 0 0 (omega arith)))
  left_at t g Done d a = g.places

module _ (o : WideOrder) (ms zs t x : List ℕ) (l : Given o zs t x) where
  -- a solve begins with the table that it was given, no pivot, and a solution of zeros
  begun_holds : HoldsAt o (value_of o t) (begun o (held t x))
  unfolding start_of
  begun_holds =
      begins o (field_of o.field) (field_of_lem o.field) (value_of o t) l.sizes.some [] (unfold ascends in refl) (omega arith) 0 (omega arith)
      (shape_start (field_of o.field) (field_of_lem o.field) o.rows (o.columns + 1) (value_of o t) (pivot_at []) (values_small o t))
      (λ c a b. let n = l.solution in get_or-replicate (length x) (c - 1) 0 0 (omega arith))

  abbrev end : Tally
  end = ended o ms zs (held t x)

  end_sound : Sound o end
  end_sound = sound_end o l.sizes ms zs (held t x) l.table l.solution

  end_holds : HoldsAt o (value_of o t) end
  end_holds =
      walk_holds o l.sizes (value_of o t) ms zs l.nonzero (most_steps o) (sound_start o l.sizes (held t x) l.table l.solution) begun_holds

  end_over : Ended end.progress.place
  end_over = end-ended o l.sizes ms zs (held t x) l.table l.solution

  -- the answer, with the pivots that were found, is true of the table that the call was given
  pub meant : Means o t (solved o ms zs (held t x)).answer (pattern_of o ms zs (held t x)) (solved o ms zs (held t x)).left.solution
  unfolding solved conclude pattern_of
  meant =
      means_at o l.sizes (value_of o t) ms zs (values_small o t) end end_sound end.progress.place refl end_over end_holds

  -- "On short the whole solve writes zeros"
  pub left : WideLeft o.columns (answer_of (solved o ms zs (held t x)).answer) (solved o ms zs (held t x)).left.solution
  unfolding solved conclude
  left = left_at o l.sizes (value_of o t) ms zs end end_sound end.progress.place end_over end_holds
