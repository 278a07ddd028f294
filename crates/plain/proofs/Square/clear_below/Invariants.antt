-- `clear_below` meets its contract. The loop's invariant: the table is a run of the rows so far.
-- Assumes nothing.
use mathlib.Core.Path.{◌≡◌}
use Prim.Native.Nat.{◌+◌, ◌-◌, ◌≤◌}
use Rattle.sharing.specs.Run.{run}
use Rattle.plain.specs.Elimination.{clear}
use Rattle.plain.proofs.Square.clear_below.Given as goal

abbrev pub invariant-loop-k : goal.invariant-loop-k
invariant-loop-k l = (l.k ≤ l.self.size + 1) × (l.t ≡ run (λ i. clear l.self.field (l.self.size + 1) l.j (l.j + 1 + i)) (l.k - (l.j + 1)) l.initial.t)
