use mathlib.Core.Path.{ap, ◌∙◌}
use Prim.Native.Nat.{◌*◌}
use native.Mathlib.Omega.{arith}
use Rattle.sharing.specs.Run.{run}
use Rattle.sharing.proofs.Loops.{run_none, run-next, run_done}
use Rattle.plane.specs.Code.Sums.{pairs_turn, word_sums, all_sums}
use Rattle.plane.proofs.combine.Goals as goal

pub loop-u-init : goal.loop-u-init
loop-u-init g c = run_none _ _

pub loop-u-preserved : goal.loop-u-preserved
unfolding word_sums
loop-u-preserved g c =
    let l = c.loop-u in
    let x = c.args in
    let n = g.row.N in
    let k = c.pair_count-pairs.result in
    run-next _ _ _ _ _ l.invariant (rw (← c.pair_count-pairs.ensures)
    (c.add_pairs.ensures ∙ ap (run (pairs_turn n (l.u * n) x.p.now (l.u * (n * n)) x.z.now (l.u * k)) n) c.add_own.ensures))

pub returns : goal.returns
unfolding all_sums
returns g c = run_done _ _ _ _ _ c.loop-u.invariant (omega arith)
