-- `join_block` meets its contract. The loop's invariant: the lanes are a run of the turns so far.
-- Assumes nothing.
use mathlib.Core.Path.{refl}
use native.Mathlib.Omega.{arith}
use lib.ListN.{length-set}
use borrow.Author.Rules.{rules}
use Rattle.sharing.proofs.Loops.{run_none, run-next, run_done}
use Rattle.verdict.specs.Code.Scan.{block_bits}
use Rattle.verdict.proofs.join_block.Goals as goal

pub loop-q-init : goal.loop-q-init
loop-q-init c = (search rules, run_none _ _)

pub loop-q-preserved : goal.loop-q-preserved
loop-q-preserved c = let l = c.loop-q in (simp length-set l.invariant.0, run-next _ _ _ _ _ l.invariant.1 (rw c.column_bits.ensures refl))

pub returns : goal.returns
unfolding block_bits
returns c = run_done _ _ _ _ _ c.loop-q.invariant.1 (omega arith)
