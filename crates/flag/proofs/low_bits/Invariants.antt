-- `flag::low_bits` meets its contract. The loop's invariant: the turns so far have stored the low bit of each place passed.
-- Assumes nothing.
use Rattle.std.proofs.Common.{◌≡◌, ◌%◌}
use Rattle.sharing.specs.Run.{run}
use Rattle.sharing.proofs.Each.{each}
use Rattle.flag.proofs.low_bits.Given as goal

abbrev pub invariant-loop-x : goal.invariant-loop-x
invariant-loop-x l = l.s ≡ run (each (λ k. λ x. x % 2)) l.x-index l.initial.s
