-- The shares so far are stored, and all else stayed.
use mathlib.Core.Path.{◌≡◌}
use Prim.Native.Nat.{◌-◌, ◌*◌, ◌/◌, ◌%◌}
use Rattle.word.proofs.Putting.{PutShares}
use Rattle.word.proofs.put_entry.Given as goal

abbrev pub invariant-loop-s : goal.invariant-loop-s
invariant-loop-s l =
    (l.g ≡ l.e / 8 * l.n) × (l.shift ≡ 8 * (7 - l.e % 8)) × PutShares l.n l.e l.s l.v l.initial.row l.row
