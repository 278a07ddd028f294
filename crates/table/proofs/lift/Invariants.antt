-- `table::lift` meets its contract. The loop's invariant: the table is a run of the rows so far.
-- Assumes nothing.
use mathlib.Core.Path.{◌≡◌}
use Rattle.field.specs.Field.{field_of}
use Rattle.sharing.specs.Run.{run}
use Rattle.table.specs.Steps.{lift_turn}
use Rattle.table.proofs.lift.Given as goal

abbrev pub invariant-loop-i : goal.invariant-loop-i
invariant-loop-i l = l.table ≡ run (lift_turn (field_of l.shape.field) l.shape.shares l.shape.columns l.j l.x) l.i l.initial.table
