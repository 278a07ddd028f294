-- The words so far are doubled.
use Rattle.choice.specs.Code.Writing.{WroteGroups, IsMultipleOf}
use Rattle.choice.proofs.prepare_part.Given as goal

abbrev pub invariant-loop-g : goal.invariant-loop-g
invariant-loop-g g l = WroteGroups g.row.BITS l.from l.g (IsMultipleOf g.row.BITS l.live l.row) l.initial.other l.other
