-- `words::read_slots` meets its contract. The loop's invariant: each place passed has its slot's byte.
-- Assumes nothing.
use mathlib.Core.Path.{◌≡◌}
use Prim.Native.Nat.{◌-◌, ◌≤◌}
use lib.ListN.{length, get_or}
use Rattle.sharing.specs.Run.{run}
use Rattle.sharing.proofs.Each.{each}
use Rattle.host.specs.WideWords.{byte_of}
use Rattle.host.proofs.words.read_slots.Given as goal

abbrev pub invariant-loop-i : goal.invariant-loop-i
invariant-loop-i l = (l.i ≤ 96) × (length l.columns ≡ 96) × (l.columns ≡ run (each (λ k x. byte_of (get_or l.slots k 0))) l.i l.initial.columns)

abbrev pub decreases-loop-i : goal.decreases-loop-i
decreases-loop-i l = 96 - l.i
