-- `table::refresh_columns` meets its contract. The loop's invariant: the row is a run of the columns so far, and p and d are where the next
-- column and its draws begin. Assumes nothing.
use mathlib.Core.Path.{◌≡◌}
use Rattle.field.specs.Field.{field_of}
use Rattle.sharing.specs.Run.{run}
use Rattle.table.specs.Steps.{column_turn}
use Rattle.table.specs.Code.Refreshing.{refresh_column}
use Rattle.table.proofs.refresh_columns.Given as goal

abbrev pub invariant-loop-u : goal.invariant-loop-u
invariant-loop-u g l =
    l.row ≡ run (column_turn g.row.N (refresh_column (field_of l.f) g.row.N l.mask)) l.u l.initial.row
