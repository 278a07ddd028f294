-- `row::product_block` meets its contract. The loop's invariant: c is a run of the bytes so far.
-- Assumes nothing.
use mathlib.Core.Path.{◌≡◌, ◌∙◌}
use Prim.Native.Nat.{◌+◌, ◌-◌}
use native.Mathlib.Omega.{arith}
use lib.ListN.{get_or, take, drop}
use lib.Seq.{get_or-take, get_or-drop}
use Rattle.sharing.proofs.Loops.{run_none, run-next}
use Rattle.row.proofs.product_block.Goals as goal

pub loop-q-init : goal.loop-q-init
loop-q-init g c = run_none _ _

pub loop-q-preserved : goal.loop-q-preserved
loop-q-preserved g c =
    let at = c.args.at in
    let e : get_or (take ((at + g.row.BLOCK) - at) (drop at c.args.b.now)) c.loop-q.q 0 ≡ get_or c.args.b.now (at + c.loop-q.q) 0 =
    get_or-take _ (drop at c.args.b.now) c.loop-q.q 0 (omega arith) ∙ get_or-drop at c.args.b.now c.loop-q.q 0 in
    run-next _ _ _ _ _ c.loop-q.invariant (rw e at c.product_byte.ensures)
