-- `row::gather_byte` meets its contract. The loop's invariant: v is a run of the turns so far.
-- Assumes nothing.
use Rattle.sharing.proofs.Loops.{run_none, run-next}
use Rattle.row.specs.Code.Gather.{gather_turn, gathered_byte}
use borrow.Author.Rules.{rules}
use Rattle.row.proofs.gather_byte.Goals as goal

pub loop-i-init : goal.loop-i-init
loop-i-init g c = run_none _ _

pub loop-i-preserved : goal.loop-i-preserved
unfolding gather_turn
loop-i-preserved g c = run-next _ _ _ _ _ c.loop-i.invariant (rw c.later.ensures)

pub returns : goal.returns
unfolding gathered_byte
returns g c = search rules
