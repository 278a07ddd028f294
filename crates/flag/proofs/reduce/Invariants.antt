-- `flag::reduce` meets its contract. The loop's invariant: the turns so far have reduced each place passed.
-- Assumes nothing.
use Rattle.std.proofs.Common.{◌≡◌, ◌%◌}
use Rattle.field.specs.Field.{field_of}
use Rattle.sharing.specs.Run.{run}
use Rattle.sharing.proofs.Each.{each}
use Rattle.flag.proofs.reduce.Given as goal

abbrev pub invariant-loop-i : goal.invariant-loop-i
invariant-loop-i g l = l.s ≡ run (each (λ k. λ x. x % (field_of l.f).q)) l.i l.initial.s
