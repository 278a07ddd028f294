-- `sharing::scale` meets its contract. The loop's invariant: the turns so far have stored z times each place passed.
-- Assumes nothing.
use Rattle.std.proofs.Common.{◌≡◌}
use Rattle.field.specs.Field.{field_of}
use Rattle.sharing.specs.Run.{run}
use Rattle.sharing.proofs.Each.{each}
use Rattle.sharing.proofs.scale.Given as goal

abbrev pub invariant-loop-x : goal.invariant-loop-x
invariant-loop-x l = l.s ≡ run (each (λ k. (field_of l.f).mul l.z)) l.x-index l.initial.s
