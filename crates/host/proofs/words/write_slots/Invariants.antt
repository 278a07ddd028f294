-- `words::write_slots` meets its contract. The loop's invariant: each slot passed has its column.
-- Assumes nothing.
use mathlib.Core.Path.{◌≡◌}
use lib.ListN.{length, get_or}
use Rattle.sharing.specs.Run.{run}
use Rattle.sharing.proofs.Each.{each}
use Rattle.host.proofs.words.write_slots.Given as goal

abbrev pub invariant-loop-i : goal.invariant-loop-i
invariant-loop-i l = (length l.slots ≡ length l.initial.slots) × (l.slots ≡ run (each (λ k x. get_or l.columns k 0)) l.i l.initial.slots)
