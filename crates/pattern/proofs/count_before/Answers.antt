-- `count_before` meets its contract: what was counted, and those before j from slot i on, are all.
-- Assumes nothing.
use native.Mathlib.Omega.{arith}
use Rattle.pattern.proofs.Loops.{count_turn, before_done}
use Rattle.pattern.proofs.count_before.Goals as goal

pub loop-p-preserved : goal.loop-p-preserved
loop-p-preserved c =
    let l = c.loop-p in
    count_turn c.args.ps.now l.p-index c.args.j l.k c.from-k.result c.loop-p-test.true l.invariant.0 l.invariant.1 (rw c.from.ensures at c.from-k.ensures)

pub returns : goal.returns
returns c =
    let l = c.loop-p in
    (omega (arith, l.invariant.1, before_done c.args.ps.now l.p-index c.args.j c.loop-p-test.false), omega (arith, l.invariant.0, l.auto.p-index-end))
