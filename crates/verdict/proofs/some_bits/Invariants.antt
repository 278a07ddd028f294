-- `some_bits` meets its contract. The loop's invariant: v is a run of the turns so far.
-- Assumes nothing.
use mathlib.Core.Path.{◌≡◌}
use Rattle.sharing.specs.Run.{run}
use Rattle.verdict.specs.Code.Scan.{bits_turn}
use Rattle.verdict.proofs.some_bits.Given as goal

abbrev pub invariant-loop-x : goal.invariant-loop-x
invariant-loop-x l = l.v ≡ run (bits_turn l.s) l.x-index 0
