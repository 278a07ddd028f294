use Prim.Native.Nat.{suc, ◌+◌, ◌-◌, ◌≤◌}
use native.Mathlib.Omega.{arith}
use native.Mathlib.Numerals.{add-one}
use lib.ListN.{length}
use Rattle.sharing.proofs.Loops.{run_none, run-next}
use Rattle.sharing.proofs.Pairs.{pairs_room}
use Rattle.plane.specs.Code.Sums.{pairs_turn}
use borrow.Author.Rules.{rules}
use Rattle.plane.proofs.add_pairs.Goals as goal

pub loop-i-init : goal.loop-i-init
loop-i-init g c = (search rules, run_none _ _)

pub add_pairs_of-requires : goal.add_pairs_of-requires
add_pairs_of-requires g c =
    let h : c.loop-i.at + (g.row.N - suc c.loop-i.i) ≤ length c.args.z.now = omega (arith, pairs_room g.row.N c.loop-i.i (omega arith)) in
    search rules

pub overflow_add-at : goal.overflow_add-at
overflow_add-at g c =
    let h : c.loop-i.at + (g.row.N - suc c.loop-i.i) ≤ length c.args.z.now = omega (arith, pairs_room g.row.N c.loop-i.i (omega arith)) in
    search rules

pub loop-i-preserved : goal.loop-i-preserved
unfolding pairs_turn
loop-i-preserved g c = let l = c.loop-i in (rw add-one (omega arith), run-next _ _ _ _ _ l.invariant.1 (rw (← l.invariant.0) c.add_pairs_of.ensures))
