-- `column_bits` meets its contract. The loop's invariant: v is a run of the turns so far.
-- Assumes nothing.
use mathlib.Core.Path.{◌≡◌}
use Prim.Native.Nat.{◌-◌, ◌≤◌}
use Rattle.sharing.specs.Run.{run}
use Rattle.verdict.specs.Code.Scan.{column_turn}
use Rattle.verdict.proofs.column_bits.Given as goal

abbrev pub invariant-loop-i : goal.invariant-loop-i
invariant-loop-i l = (l.i ≤ 8) × (l.v ≡ run (column_turn l.s l.at) l.i 0)

abbrev pub decreases-loop-i : goal.decreases-loop-i
decreases-loop-i l = 8 - l.i
