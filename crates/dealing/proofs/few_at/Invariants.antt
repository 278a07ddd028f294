-- The columns so far are in the high lanes.
use Prim.Native.Nat.{◌-◌, ◌^◌, ◌<◌}
use Rattle.word.specs.Lanes.{Lanes}
use Rattle.dealing.specs.Code.Words.{column_byte}
use Rattle.dealing.proofs.few_at.Given as goal

abbrev pub invariant-loop-q : goal.invariant-loop-q
invariant-loop-q l = (l.v < 2 ^ 64) × Lanes l.v (column_byte l.n l.d 0 (8 - l.q) l.o)
