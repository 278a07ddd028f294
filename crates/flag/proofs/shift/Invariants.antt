-- `flag::shift` meets its contract. The loop's invariant: the turns so far have stored each place passed, shifted.
-- Assumes nothing.
use Rattle.std.proofs.Common.{◌≡◌, ◌/◌, ◌%◌, ◌^◌, get_or}
use Rattle.field.specs.Field.{field_of}
use Rattle.sharing.specs.Run.{run}
use Rattle.sharing.proofs.Each.{each}
use Rattle.flag.proofs.shift.Given as goal

abbrev pub invariant-loop-i : goal.invariant-loop-i
invariant-loop-i g l = l.t ≡ run (each (λ k x. get_or l.s k 0 % (field_of l.f).q / 2 ^ l.h)) l.i l.initial.t
