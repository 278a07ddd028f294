-- `wide_walk::solve` meets its contract. The loop's invariant: the solve is sound, and comes to the end of the whole solve. The measure is how many steps
-- are left of the most that there can be.
-- Assumes nothing.
use mathlib.Core.Path.{◌≡◌, refl, sym, ap, ◌∙◌, subst}
use Prim.Native.Nat.{ℕ}
use native.Mathlib.Omega.{arith}
use lib.ListN.{length, replicate, length-drop, length-replicate}
use Rattle.sharing.proofs.Loops.{rest}
use Rattle.course.specs.declared.Step.{Step}
use Rattle.pattern.specs.declared.WidePlace.{WidePlace}
use Rattle.pattern.specs.declared.WidePlace.TheVariants.{At, Short, Done}
use Rattle.pattern.specs.Next.{start_of}
use Rattle.pattern.proofs.Counting.{wanted_few}
use Rattle.pattern.proofs.Moving.{standing_so}
use Rattle.walk.specs.Act.{held}
use Rattle.wide_walk.specs.WideWalk.{conclude, ended, solved, Ended}
use Rattle.wide_walk.proofs.Going.{Going, tally, begin, room, moved, halted, tests, most_few, concluded, wiped}
use Rattle.wide_walk.proofs.solve.Goals as goal

pub loop-p-init : goal.loop-p-init
loop-p-init c =
    let w = c.wipe.ensures in
    rw (c.start-p.ensures, w)
    (subst (λ (k : ℕ). Going c.args.o c.args.mask.now c.args.nonzero.now (ended c.args.o c.args.mask.now c.args.nonzero.now (held c.args.table.now (replicate (length c.args.solution.now) 0))) (tally (start_of c.args.o) (held c.args.table.now (replicate k 0)) 0)) (length-replicate (length c.args.solution.now) 0)
    (begin c.args.o c.requires.sizes c.args.mask.now c.args.nonzero.now (held c.args.table.now (replicate (length c.args.solution.now) 0)) c.requires.table_len.0 (length-replicate (length c.args.solution.now) 0 ∙ c.requires.table_len.1)))

pub slice_bounds-act-count : goal.slice_bounds-act-count
slice_bounds-act-count c =
    let r = room c.args.o c.requires.sizes c.args.mask.now c.args.nonzero.now c.loop-p.invariant c.in-At.s c.in-At.is in omega (arith, r.1, c.requires.o_in_bounds.0)

pub slice_bounds-act-start : goal.slice_bounds-act-start
slice_bounds-act-start c =
    let r = room c.args.o c.requires.sizes c.args.mask.now c.args.nonzero.now c.loop-p.invariant c.in-At.s c.in-At.is in omega (arith, r.1, c.requires.o_in_bounds.0)

pub slice_bounds-act-count-in-At : goal.slice_bounds-act-count-in-At
slice_bounds-act-count-in-At c =
    let r = room c.args.o c.requires.sizes c.args.mask.now c.args.nonzero.now c.loop-p.invariant c.in-At.s c.in-At.is in omega (arith, r.2, c.requires.o_in_bounds.1)

pub slice_bounds-act-start-in-At : goal.slice_bounds-act-start-in-At
slice_bounds-act-start-in-At c =
    let r = room c.args.o c.requires.sizes c.args.mask.now c.args.nonzero.now c.loop-p.invariant c.in-At.s c.in-At.is in omega (arith, r.2, c.requires.o_in_bounds.1)

pub act-x-requires : goal.act-x-requires
act-x-requires c =
    let r = room c.args.o c.requires.sizes c.args.mask.now c.args.nonzero.now c.loop-p.invariant c.in-At.s c.in-At.is in
    let g = c.loop-p.invariant.sound in
    record {
      sizes = c.requires.sizes;
      v_value = tests c.args.o c.loop-p.p c.in-At.s c.in-At.is g.standing;
      table_len = (g.table, g.places);
      s_in_bounds = (rw (rest, length-drop) (omega (arith, r.1, c.requires.o_in_bounds.0)), rw (rest, length-drop) (omega (arith, r.2, c.requires.o_in_bounds.1)));
    }

pub next-p-requires : goal.next-p-requires
next-p-requires c =
    let r = room c.args.o c.requires.sizes c.args.mask.now c.args.nonzero.now c.loop-p.invariant c.in-At.s c.in-At.is in
    let g = c.loop-p.invariant.sound.standing in
    let few = wanted_few c.args.o c.requires.sizes in
    record {
      sizes = rw g.order c.requires.sizes;
      self_value = ((standing_so c.args.o c.loop-p.p g).0, c.in-At.is);
      s_bound = rw g.order (omega (arith, r.1, few.0), omega (arith, r.2, few.1));
    }

pub overflow_add-steps : goal.overflow_add-steps
overflow_add-steps c =
    let r = room c.args.o c.requires.sizes c.args.mask.now c.args.nonzero.now c.loop-p.invariant c.in-At.s c.in-At.is in omega (arith, r.0, most_few c.args.o c.requires.sizes)

pub loop-p-smaller : goal.loop-p-smaller
loop-p-smaller c =
    let r = room c.args.o c.requires.sizes c.args.mask.now c.args.nonzero.now c.loop-p.invariant c.in-At.s c.in-At.is in omega (arith, r.0)

pub loop-p-preserved : goal.loop-p-preserved
loop-p-preserved c =
    let l = c.loop-p in
    moved c.args.o c.requires.sizes c.args.mask.now c.args.nonzero.now l.invariant c.in-At.s c.in-At.is (rw rest at c.act-x.ensures.value) c.next-p.ensures (rw (rest l.p.mask c.args.mask.now, rest l.p.nonzero c.args.nonzero.now) at c.act-x.ensures.solution_after)

pub returns-in-Short : goal.returns-in-Short
unfolding solved
returns-in-Short c =
    let l = c.loop-p in
    let t = tally l.p (held l.table l.solution) l.steps in
    concluded t Short c.in-Short.is
    ∙ ap conclude (halted c.args.o c.requires.sizes c.args.mask.now c.args.nonzero.now l.invariant (subst Ended (sym c.in-Short.is) tt) ∙ wiped c.args.o c.args.mask.now c.args.nonzero.now c.args.table.now c.args.solution.now _ c.wipe.ensures)

-- the loop ends at a place that is no step
done_at : (q : WidePlace) → ((s : Step) → q ≡ At s → ⊥) → (q ≡ Short → ⊥) → q ≡ Done
done_at (At s) a b = absurd (a s refl)
done_at Short a b = absurd (b refl)
done_at Done a b = refl

pub returns-in_default-place : goal.returns-in_default-place
unfolding solved
returns-in_default-place c =
    let l = c.loop-p in
    let d = done_at l.p.place c.in_default.not-At c.in_default-place.not-Short in
    let t = tally l.p (held l.table l.solution) l.steps in
    concluded t Done d
    ∙ ap conclude (halted c.args.o c.requires.sizes c.args.mask.now c.args.nonzero.now l.invariant (subst Ended (sym d) tt) ∙ wiped c.args.o c.args.mask.now c.args.nonzero.now c.args.table.now c.args.solution.now _ c.wipe.ensures)
