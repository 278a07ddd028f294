-- The places so far hold the shares.
use mathlib.Core.Path.{◌≡◌}
use Prim.Native.Nat.{◌-◌, ◌*◌, ◌/◌, ◌%◌}
use lib.ListN.{length}
use Rattle.row.proofs.Filling.{Filled}
use Rattle.word.specs.Rows.{byte_of}
use Rattle.word.proofs.entry.Given as goal

abbrev pub invariant-loop-s : goal.invariant-loop-s
invariant-loop-s l =
    (l.g ≡ l.e / 8 * l.n) × (l.shift ≡ 8 * (7 - l.e % 8)) × (length l.out ≡ l.n) × Filled (byte_of l.n l.row l.e) l.s l.out
