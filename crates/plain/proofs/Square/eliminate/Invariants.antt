-- `eliminate` meets its contract. The loop's invariant: what is left to do from column j comes to what the whole does.
-- Assumes nothing.
use mathlib.Core.Path.{◌≡◌}
use Prim.Native.Nat.{◌+◌, ◌-◌}
use Rattle.plain.specs.Elimination.{eliminate}
use Rattle.plain.proofs.Square.eliminate.Given as goal

abbrev pub invariant-loop-j : goal.invariant-loop-j
invariant-loop-j l = eliminate l.self.field l.self.size (l.self.size + 1 - l.j) l.j l.t ≡ eliminate l.self.field l.self.size l.self.size 1 l.initial.t
