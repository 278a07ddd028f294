-- `table::scale_all` meets its contract. The loop's invariant: the row is a run of the factors so far, and d is where the next one's draws begin.
-- Assumes nothing.
use mathlib.Core.Path.{◌≡◌}
use Rattle.field.specs.Field.{field_of}
use Rattle.sharing.specs.Run.{run}
use Rattle.table.specs.Steps.{factor_turn}
use Rattle.table.proofs.scale_all.Given as goal

abbrev pub invariant-loop-i : goal.invariant-loop-i
invariant-loop-i l = l.row ≡ run (factor_turn (field_of l.f) l.n l.columns l.fn.factors.f l.mask) l.i l.initial.row
