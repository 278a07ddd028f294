-- The bytes so far are taken.
use mathlib.Core.Path.{◌≡◌}
use Prim.Native.Nat.{ℕ, ◌+◌, ◌*◌, ◌<◌}
use lib.ListN.{length, get_or}
use Rattle.dealing.proofs.word_at.Given as goal

abbrev pub invariant-loop-l : goal.invariant-loop-l
invariant-loop-l g l = (length l.bytes ≡ 8) × ((i : ℕ) → i < l.l → get_or l.bytes i 0 ≡ get_or l.d (l.o + i * g.row.N) 0)
