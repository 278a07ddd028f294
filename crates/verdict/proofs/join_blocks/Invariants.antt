-- `join_blocks` meets its contract. The loop's invariant: the lanes are a run of the blocks so far.
-- Assumes nothing.
use mathlib.Core.Path.{◌≡◌}
use Prim.Native.Nat.{◌-◌, ◌*◌, ◌≤◌}
use lib.ListN.{length}
use Rattle.sharing.specs.Run.{run}
use Rattle.verdict.specs.Code.Scan.{block_bits}
use Rattle.verdict.proofs.join_blocks.Given as goal

abbrev pub invariant-loop-u : goal.invariant-loop-u
invariant-loop-u l =
    (l.u ≤ l.blocks) × (length l.lanes ≡ length l.initial.lanes) × (l.lanes ≡ run (λ u. block_bits l.s (u * 128)) l.u l.initial.lanes)

abbrev pub decreases-loop-u : goal.decreases-loop-u
decreases-loop-u l = l.blocks - l.u
