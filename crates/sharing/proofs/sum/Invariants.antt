-- `sharing::sum` meets its contract. The loop's invariant: what is left to sum and v are the whole sum.
-- Assumes nothing.
use Rattle.std.proofs.Common.{◌≡◌}
use Rattle.field.specs.Field.{field_of}
use Rattle.sharing.specs.Rules.{sum}
use Rattle.sharing.proofs.Sums.{onto}
use Rattle.sharing.proofs.sum.Given as goal

abbrev pub invariant-loop-x : goal.invariant-loop-x
invariant-loop-x l = onto (field_of l.f) l.v l.x-iterator.iter.rest.now ≡ sum (field_of l.f) l.s
