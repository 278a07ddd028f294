-- The words so far are written.
use Prim.Native.Nat.{◌-◌}
use Rattle.dealing.specs.Code.Words.{kept_byte, Written}
use Rattle.dealing.proofs.few.Given as goal

abbrev pub invariant-loop-k : goal.invariant-loop-k
invariant-loop-k l = Written 0 l.k (kept_byte l.low l.n l.d 0 (8 - l.columns)) l.initial.words l.words
