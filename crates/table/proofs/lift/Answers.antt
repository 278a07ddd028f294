-- `table::lift` meets its contract. The loop's invariant: the table is a run of the rows so far.
-- Assumes nothing.
use native.Mathlib.Omega.{arith}
use Rattle.sharing.proofs.Loops.{run_none, run-next, run_done}
use Rattle.table.specs.Steps.{lift}
use Rattle.table.proofs.lift.Goals as goal

pub loop-i-init : goal.loop-i-init
loop-i-init c = run_none _ _

pub loop-i-preserved : goal.loop-i-preserved
loop-i-preserved c = run-next _ _ _ _ _ c.loop-i.invariant c.lift_row.ensures

pub returns : goal.returns
unfolding lift
returns c = run_done _ _ _ _ _ c.loop-i.invariant (omega arith)
