-- `sharing::copy_into` meets its contract. The loop's invariant: the turns so far have stored the source's byte at each place passed.
-- Assumes nothing.
use Rattle.std.proofs.Common.{◌≡◌, get_or}
use Rattle.sharing.specs.Run.{run}
use Rattle.sharing.proofs.Each.{each}
use Rattle.sharing.proofs.copy_into.Given as goal

abbrev pub invariant-loop-k : goal.invariant-loop-k
invariant-loop-k l = l.dst ≡ run (each (λ k x. get_or l.src k 0)) l.k l.initial.dst
