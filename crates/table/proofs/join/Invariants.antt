-- `table::join` meets its contract. The loop's invariant: the turns so far have joined the shares of each place passed.
-- Assumes nothing.
use mathlib.Core.Path.{◌≡◌}
use Rattle.field.specs.Field.{field_of}
use Rattle.sharing.specs.Run.{run}
use Rattle.table.specs.Steps.{signed}
use Rattle.table.proofs.Lent.{join_share}
use Rattle.table.proofs.join.Given as goal

abbrev pub invariant-loop-i : goal.invariant-loop-i
invariant-loop-i g l = l.s ≡ run (join_share (signed (field_of l.f) g.S.Sign.minus) l.v) l.i l.initial.s
