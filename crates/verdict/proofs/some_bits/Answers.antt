-- `some_bits` meets its contract. The loop's invariant: v is a run of the turns so far.
-- Assumes nothing.
use mathlib.Core.Path.{refl}
use native.Mathlib.Omega.{arith}
use Rattle.sharing.proofs.Loops.{run_none, run-next, run_done}
use Rattle.verdict.specs.Code.Scan.{some_bits}
use Rattle.verdict.proofs.some_bits.Goals as goal

pub loop-x-init : goal.loop-x-init
loop-x-init c = run_none _ _

pub loop-x-preserved : goal.loop-x-preserved
loop-x-preserved c = run-next _ _ _ _ _ c.loop-x.invariant refl

pub returns : goal.returns
unfolding some_bits
returns c = run_done _ _ _ _ _ c.loop-x.invariant (omega arith)
