-- `count_before` meets its contract. The loop's invariant: what was counted, and those before j from slot i on, are all.
-- Assumes nothing.
use mathlib.Core.Path.{◌≡◌}
use Prim.Native.Nat.{◌+◌, ◌≤◌}
use lib.ListN.{drop}
use Rattle.pattern.specs.Pivots.{before}
use Rattle.pattern.proofs.count_before.Given as goal

abbrev pub invariant-loop-p : goal.invariant-loop-p
invariant-loop-p l = (l.k ≤ l.p-index) × (l.k + before (drop l.p-index l.ps) l.j ≡ before l.ps l.j)
