-- `pattern::full_cost` meets its contract. The loop's invariant: mask is what columns 1 to j - 1 take.
-- Assumes nothing.
use mathlib.Core.Path.{◌≡◌}
use Prim.Native.Nat.{◌+◌, ◌-◌, ◌*◌, ◌≤◌}
use Rattle.pattern.specs.Code.Columns.{most_column, full_cost}
use Rattle.pattern.proofs.full_cost.Given as goal

abbrev pub invariant-loop-j : goal.invariant-loop-j
invariant-loop-j l =
    (1 ≤ l.j) × (l.j ≤ l.n + 1) × (l.mask ≡ full_cost l.o (l.j - 1)) × (l.mask ≤ (l.j - 1) * most_column)
