-- `column_bits` meets its contract. The loop's invariant: v is a run of the turns so far.
-- Assumes nothing.
use mathlib.Core.Path.{refl}
use native.Mathlib.Omega.{arith}
use borrow.Author.Rules.{rules}
use Rattle.sharing.proofs.Loops.{run_none, run-next, run_done}
use Rattle.verdict.specs.Code.Scan.{column_bits}
use Rattle.verdict.proofs.column_bits.Goals as goal

pub loop-i-init : goal.loop-i-init
loop-i-init c = (search rules, run_none _ _)

pub loop-i-preserved : goal.loop-i-preserved
loop-i-preserved c = (search rules, run-next _ _ _ _ _ c.loop-i.invariant.1 refl)

pub returns : goal.returns
unfolding column_bits
returns c = run_done _ _ _ _ _ c.loop-i.invariant.1 (omega arith)
