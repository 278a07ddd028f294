-- `unknowns` meets its contract. The loop's invariant: what is left to find from unknown j down comes to what the whole does.
-- Assumes nothing.
use mathlib.Core.Path.{◌≡◌}
use Rattle.plain.specs.Elimination.{unknowns}
use Rattle.plain.proofs.Square.unknowns.Given as goal

abbrev pub invariant-loop-j : goal.invariant-loop-j
invariant-loop-j l = unknowns l.self.field l.self.size l.j l.t l.solution ≡ unknowns l.self.field l.self.size l.self.size l.initial.t l.initial.solution
