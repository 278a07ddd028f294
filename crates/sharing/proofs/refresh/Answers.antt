-- `sharing::refresh` meets its contract: a turn of the loop is 01's, of the tape's own draw.
-- Assumes nothing.
use Rattle.std.proofs.Common.{◌≡◌, ◌-◌, length, arith}
use Rattle.std.proofs.lemmas.List.{get_or-take, length-take-le}
use Rattle.sharing.specs.Rules.{refresh_turn, refresh}
use Rattle.sharing.proofs.Loops.{run_none, run-next, run_done}
use Rattle.sharing.proofs.refresh.Goals as goal

pub loop-k-init : goal.loop-k-init
loop-k-init c = run_none _ _

pub loop-k-preserved : goal.loop-k-preserved
unfolding refresh_turn
loop-k-preserved c =
    let l = c.loop-k in
    let ds = c.args.ds.now in
    let n = length c.args.s.now - 1 in
    let d = get_or-take n ds l.k 0 (omega (arith, length-take-le n ds (omega arith))) in
    run-next _ _ _ _ _ l.invariant (rw (c.draw.ensures, d) at c.join.ensures)

pub returns : goal.returns
unfolding refresh
returns c =
    let n = length c.args.s.now - 1 in
    let e : c.loop-k.k ≡ n = omega (arith, length-take-le n c.args.ds.now (omega arith)) in
    run_done _ _ _ _ _ c.loop-k.invariant e
