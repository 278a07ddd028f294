-- The pairs of words so far are written.
use Prim.Native.Nat.{◌*◌, ◌/◌}
use Rattle.dealing.specs.Code.Words.{kept_byte, Written}
use Rattle.dealing.proofs.pairs_word.Given as goal

abbrev pub invariant-loop-p : goal.invariant-loop-p
invariant-loop-p g l = Written l.at (2 * l.p) (kept_byte l.low g.row.N l.d l.o (l.shift / 8)) l.initial.row l.row
