-- `walk::solve` meets its contract. The loop's invariant: what was counted and the steps left make up the list, and the walk of the steps left comes to the
-- end of the whole walk. The measure is how many steps are left.
-- Assumes nothing.
use mathlib.Core.Path.{refl, ap, ◌∙◌}
use Prim.Native.Nat.{◌≤◌, ◌<◌, ◌+◌}
use native.Mathlib.Omega.{arith}
use lib.ListN.{length, length-drop}
use Rattle.sharing.proofs.Loops.{rest}
use Rattle.course.specs.declared.Order.{Order}
use Rattle.course.specs.declared.Place.TheVariants.{At}
use Rattle.course.specs.StepList.{step_list, in_list, cost_of, mask_cost, nonzero_cost, full_mask, full_nonzero}
use Rattle.course.specs.Next.{following, order_of, start_of}
use Rattle.course.proofs.Sums.{list_small, mask_small, nonzero_small}
use Rattle.course.proofs.Along.{along_in, room_along}
use Rattle.walk.specs.Act.{held}
use Rattle.walk.specs.Walk.{conclude, solved}
use Rattle.walk.proofs.Acted.{acted-length}
use Rattle.walk.proofs.Going.{Going, tally, begin, moved, ended, halted}
use Rattle.walk.proofs.solve.Goals as goal
use Rattle.walk.proofs.solve.Invariants.{end}

pub loop-p-init : goal.loop-p-init
unfolding start_of
loop-p-init c =
    let a = c.args in
    rw c.start-p.ensures
    (record {
      order = refl;
      lengths = record { table = c.requires.table_len.0; solution = c.requires.table_len.1 };
      going = begin a.o a.mask.now a.nonzero.now (held a.table.now a.solution.now) c.requires.sizes.some;
    })

pub act-x-requires-clause-s_value : goal.act-x-requires-clause-s_value
act-x-requires-clause-s_value c =
    let a = c.args in
    let l = c.loop-p in
    let s = c.in-At.s in
    let going : Going a.o a.mask.now a.nonzero.now (end a.o a.mask.now a.nonzero.now (held a.table.now a.solution.now)) (At s) (tally (held l.table l.solution) l.steps l.p.mask l.p.nonzero) =
    rw c.in-At.is at l.invariant.going in
    along_in _ going.along

pub act-x-requires-clause-s_in_bounds : goal.act-x-requires-clause-s_in_bounds
act-x-requires-clause-s_in_bounds c =
    let a = c.args in
    let l = c.loop-p in
    let s = c.in-At.s in
    let going : Going a.o a.mask.now a.nonzero.now (end a.o a.mask.now a.nonzero.now (held a.table.now a.solution.now)) (At s) (tally (held l.table l.solution) l.steps l.p.mask l.p.nonzero) =
    rw c.in-At.is at l.invariant.going in
    let room : (l.steps < length (step_list a.o.size)) × (l.p.mask + mask_cost a.o s ≤ full_mask a.o) × (l.p.nonzero + nonzero_cost a.o s ≤ full_nonzero a.o) =
    room_along _ going.along in
    let p = c.requires in
    (rw (rest, length-drop) (omega (arith, room.1, p.o_in_bounds.0)), rw (rest, length-drop) (omega (arith, room.2, p.o_in_bounds.1)))

pub next-p-requires-clause-s_value : goal.next-p-requires-clause-s_value
next-p-requires-clause-s_value c =
    let a = c.args in
    let l = c.loop-p in
    let s = c.in-At.s in
    let going : Going a.o a.mask.now a.nonzero.now (end a.o a.mask.now a.nonzero.now (held a.table.now a.solution.now)) (At s) (tally (held l.table l.solution) l.steps l.p.mask l.p.nonzero) =
    rw c.in-At.is at l.invariant.going in
    ap (λ (r : Order). in_list r.size s) l.invariant.order ∙ along_in _ going.along

-- the counters have room, as the whole list does not take so many draws
pub next-p-requires-clause-s_bound : goal.next-p-requires-clause-s_bound
next-p-requires-clause-s_bound c =
    let a = c.args in
    let l = c.loop-p in
    let s = c.in-At.s in
    let going : Going a.o a.mask.now a.nonzero.now (end a.o a.mask.now a.nonzero.now (held a.table.now a.solution.now)) (At s) (tally (held l.table l.solution) l.steps l.p.mask l.p.nonzero) =
    rw c.in-At.is at l.invariant.going in
    let room : (l.steps < length (step_list a.o.size)) × (l.p.mask + mask_cost a.o s ≤ full_mask a.o) × (l.p.nonzero + nonzero_cost a.o s ≤ full_nonzero a.o) =
    room_along _ going.along in
    let z = c.requires.sizes in
    let e = l.invariant.order in
    (rw e (omega (arith, room.1, mask_small _ z)), rw e (omega (arith, room.2, nonzero_small _ z)))

pub overflow_add-steps : goal.overflow_add-steps
overflow_add-steps c =
    let a = c.args in
    let l = c.loop-p in
    let s = c.in-At.s in
    let going : Going a.o a.mask.now a.nonzero.now (end a.o a.mask.now a.nonzero.now (held a.table.now a.solution.now)) (At s) (tally (held l.table l.solution) l.steps l.p.mask l.p.nonzero) =
    rw c.in-At.is at l.invariant.going in
    let room : (l.steps < length (step_list a.o.size)) × (l.p.mask + mask_cost a.o s ≤ full_mask a.o) × (l.p.nonzero + nonzero_cost a.o s ≤ full_nonzero a.o) =
    room_along _ going.along in
    omega (arith, room.0, list_small a.o.size c.requires.sizes.most)

pub loop-p-preserved : goal.loop-p-preserved
loop-p-preserved c =
    let a = c.args in
    let l = c.loop-p in
    let s = c.in-At.s in
    let going : Going a.o a.mask.now a.nonzero.now (end a.o a.mask.now a.nonzero.now (held a.table.now a.solution.now)) (At s) (tally (held l.table l.solution) l.steps l.p.mask l.p.nonzero) =
    rw c.in-At.is at l.invariant.going in
    let room : (l.steps < length (step_list a.o.size)) × (l.p.mask + mask_cost a.o s ≤ full_mask a.o) × (l.p.nonzero + nonzero_cost a.o s ≤ full_nonzero a.o) =
    room_along _ going.along in
    let x = c.act-x in
    let left = rw (rest l.p.mask a.mask.now, rest l.p.nonzero a.nonzero.now) at x.ensures.solution_after in
    rw c.next-p.ensures
    (record {
      order = l.invariant.order;
      lengths = rw left (acted-length a.o s (along_in _ going.along) _ _ _ l.invariant.lengths);
      going =
          moved a.o a.mask.now a.nonzero.now {r = cost_of (order_of l.p) s} l.invariant.going c.in-At.is (rw rest at x.ensures.value)
          (ap (λ (r : Order). following r.size s x.result) l.invariant.order)
          left (ap (λ (r : Order). cost_of r s) l.invariant.order);
    })

pub returns-in-Stopped : goal.returns-in-Stopped
unfolding solved conclude
returns-in-Stopped c =
    let a = c.args in
    let e = halted a.o a.mask.now a.nonzero.now (rw c.in-Stopped.is at c.loop-p.invariant.going) in
    rw c.wipe.ensures (ap conclude e)

pub returns-in-Done : goal.returns-in-Done
unfolding solved conclude
returns-in-Done c =
    let a = c.args in
    ap conclude (ended a.o a.mask.now a.nonzero.now (rw c.in-Done.is at c.loop-p.invariant.going))
