-- `sharing::look_up16` meets its contract. The loop's invariant: the turns so far have stored z times each place passed.
-- Assumes nothing.
use Rattle.std.proofs.Common.{◌≡◌}
use Rattle.field.specs.Field.{F16}
use Rattle.sharing.specs.Run.{run}
use Rattle.sharing.proofs.Each.{each}
use Rattle.sharing.proofs.look_up16.Given as goal

abbrev pub invariant-loop-x : goal.invariant-loop-x
invariant-loop-x l = l.s ≡ run (each (λ k. F16.mul l.z)) l.x-index l.initial.s
