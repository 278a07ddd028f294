-- `join_blocks` meets its contract. The loop's invariant: the lanes are a run of the blocks so far.
-- Assumes nothing.
use mathlib.Core.Path.{◌∙◌}
use native.Mathlib.Omega.{arith}
use borrow.Author.Rules.{rules}
use Rattle.sharing.proofs.Loops.{run_none, run-next, run_done}
use Rattle.verdict.specs.Code.Scan.{blocks_bits}
use Rattle.verdict.proofs.join_blocks.Goals as goal

pub loop-u-init : goal.loop-u-init
loop-u-init c = (search rules, search rules, run_none _ _)

pub loop-u-preserved : goal.loop-u-preserved
loop-u-preserved c =
    let l = c.loop-u in
    (search rules, c.join_block.auto.lanes ∙ l.invariant.1, run-next _ _ _ _ _ l.invariant.2 c.join_block.ensures)

pub returns : goal.returns
unfolding blocks_bits
returns c = run_done _ _ _ _ _ c.loop-u.invariant.2 (omega arith)
