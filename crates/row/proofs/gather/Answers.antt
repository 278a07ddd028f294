-- `row::gather` meets its contract. The loop's invariant: out is a run of the blocks so far.
-- Assumes nothing.
use Rattle.sharing.proofs.Loops.{run_none, run-next}
use Rattle.row.specs.Code.Gather.{gather_block, gather_all}
use borrow.Author.Rules.{rules}
use Rattle.row.proofs.gather.Goals as goal

pub loop-u-init : goal.loop-u-init
loop-u-init g c = run_none _ _

pub loop-u-preserved : goal.loop-u-preserved
unfolding gather_block
loop-u-preserved g c = run-next _ _ _ _ _ c.loop-u.invariant c.gather_block.ensures

pub returns : goal.returns
unfolding gather_all
returns g c = search rules
