-- `table::refresh_columns` meets its contract. The loop's invariant: the row is a run of the columns so far.
-- Assumes nothing.
use Prim.Native.Nat.{◌*◌}
use native.Mathlib.Omega.{arith}
use Rattle.sharing.proofs.Loops.{run_none, run-next, run_done, rest}
use Rattle.table.specs.Steps.{over_columns}
use Rattle.table.specs.Code.Refreshing.{refresh_column, refresh_row}
use Rattle.table.proofs.Parts.{part-lent, put-lent}
use Rattle.table.proofs.refresh_columns.Goals as goal

pub loop-u-init : goal.loop-u-init
loop-u-init g c = run_none _ _

pub loop-u-preserved : goal.loop-u-preserved
unfolding refresh_column
loop-u-preserved g c =
    let l = c.loop-u in
    let n = g.row.N in
    run-next _ _ _ _ _ l.invariant (rw (put-lent n (l.u * n) _ l.row, c.refresh.ensures, rest, part-lent n (l.u * n) l.row))

pub returns : goal.returns
unfolding refresh_row over_columns
returns g c = run_done _ _ _ _ _ c.loop-u.invariant (omega arith)
