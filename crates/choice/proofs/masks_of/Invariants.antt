-- The shares so far have their masks.
use Rattle.choice.specs.Code.Writing.{WroteGroups, IsMaskOf}
use Rattle.choice.proofs.masks_of.Given as goal

abbrev pub invariant-loop-i : goal.invariant-loop-i
invariant-loop-i g l = WroteGroups g.row.BITS 0 l.i (IsMaskOf l.factor) l.initial.masks l.masks
