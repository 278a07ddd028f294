-- The columns so far are taken.
use Prim.Native.Nat.{◌-◌, ◌*◌}
use Rattle.row.proofs.Filling.{Filled}
use Rattle.word.proofs.take_row.Given as goal
use Prim.Native.Nat.{ℕ, ◌/◌, ◌%◌}
use mathlib.Core.List.{List}
use Rattle.word.specs.Rows.{byte_of}

-- the byte at place p
abbrev pub byte_at : ℕ → ℕ → List ℕ → ℕ → ℕ
byte_at n columns row p = byte_of n row (columns - 1 - p / n) (p % n)

abbrev pub invariant-loop-e : goal.invariant-loop-e
invariant-loop-e l = Filled (byte_at l.n l.columns l.row) ((l.columns - l.e) * l.n) l.bytes
