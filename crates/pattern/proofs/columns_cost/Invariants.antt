-- `pattern::columns_cost` meets its contract. The loop's invariant: mask is what columns 1 to j - 1 take, and i how many pivots stand among them.
-- Assumes nothing.
use mathlib.Core.Path.{◌≡◌}
use Prim.Native.Nat.{◌+◌, ◌-◌, ◌*◌, ◌≤◌}
use Rattle.pattern.specs.Pivots.{before, listed}
use Rattle.pattern.specs.Code.Columns.{most_column, columns_cost}
use Rattle.pattern.proofs.columns_cost.Given as goal

abbrev pub invariant-loop-j : goal.invariant-loop-j
invariant-loop-j l =
    (1 ≤ l.j) × (l.j ≤ l.n + 1) × (l.i ≡ before (listed l.v) l.j) × (l.mask ≡ columns_cost l.o (listed l.v) (l.j - 1)) × (l.mask ≤ (l.j - 1) * most_column)
