-- `join_block` meets its contract. The loop's invariant: the lanes are a run of the turns so far.
-- Assumes nothing.
use mathlib.Core.Path.{◌≡◌}
use lib.ListN.{length}
use Rattle.sharing.specs.Run.{run}
use Rattle.verdict.specs.Code.Scan.{lane_turn}
use Rattle.verdict.proofs.join_block.Given as goal

abbrev pub invariant-loop-q : goal.invariant-loop-q
invariant-loop-q l = (length l.lanes ≡ length l.initial.lanes) × (l.lanes ≡ run (lane_turn l.s l.at) l.q l.initial.lanes)
