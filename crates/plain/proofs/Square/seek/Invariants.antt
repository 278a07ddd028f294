-- `seek` meets its contract. The loop's invariant: what is left to look at from row r ends where the whole does.
-- Assumes nothing.
use mathlib.Core.Path.{◌≡◌}
use Prim.Native.Nat.{◌+◌, ◌-◌}
use Rattle.plain.specs.Elimination.{seek}
use Rattle.plain.proofs.Square.seek.Given as goal

abbrev pub invariant-loop-r : goal.invariant-loop-r
invariant-loop-r l = seek (l.self.size + 1) l.j l.t (l.self.size + 1 - l.r) l.r ≡ seek (l.self.size + 1) l.j l.t (l.self.size + 1 - l.j) l.j
