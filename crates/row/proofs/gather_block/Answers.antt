-- `row::gather_block` meets its contract. The loop's invariant: out, with the block as it is by then, is a run of the bytes so far.
-- Assumes nothing.
use mathlib.Core.Path.{◌≡◌, ◌∙◌}
use Prim.Native.Nat.{◌+◌, ◌-◌}
use native.Mathlib.Omega.{arith}
use lib.ListN.{length, take, drop, length-drop}
use lib.Seq.{length-take-le}
use Rattle.sharing.proofs.Loops.{run_none, run-next, run_done}
use Rattle.row.proofs.Gathering.{part_none, part_next}
use Rattle.row.proofs.gather_block.Goals as goal

pub loop-q-init : goal.loop-q-init
loop-q-init g c = let x = c.args in part_none x.at ((x.at + g.row.BLOCK) - x.at) x.out.now ∙ run_none _ _

pub loop-q-preserved : goal.loop-q-preserved
loop-q-preserved g c =
    let x = c.args in
    let l = c.loop-q in
    run-next _ _ _ _ _ l.invariant
    (part_next x.at ((x.at + g.row.BLOCK) - x.at) l.q c.gather_byte.result x.out.now l.x-items (omega arith) (omega arith) ∙ rw c.gather_byte.ensures)

pub returns : goal.returns
returns g c =
    let x = c.args in
    let k = (x.at + g.row.BLOCK) - x.at in
    let e : length (take k (drop x.at x.out.now)) ≡ k = length-take-le k (drop x.at x.out.now) (simp length-drop (omega arith)) in
    run_done _ _ _ _ _ c.loop-q.invariant (omega arith)
