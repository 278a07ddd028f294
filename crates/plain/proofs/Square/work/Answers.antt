-- `work` meets its contract: back substitution where every column has its pivot, zeros where one has none.
-- Assumes nothing.
use mathlib.Core.Path.{ap, ◌∙◌}
use Prim.Native.Nat.{ℕ}
use lib.ListN.{replicate}
use Rattle.plain.proofs.Turns.{does_going, does_halted}
use Rattle.plain.proofs.Square.work.Goals as goal

pub returns-in-None : goal.returns-in-None
returns-in-None c = let x = c.args in
    does_going x.self.field x.self.size x.t.now x.solution.now _ _ c.in-None.ensures c.unknowns.ensures

pub returns-in-Some : goal.returns-in-Some
returns-in-Some c = let x = c.args in
    does_halted x.self.field x.self.size x.t.now x.solution.now c.in-Some.j _ c.in-Some.ensures
    (c.fill.ensures.after (λ y e. e) ∙ ap (λ (k : ℕ). replicate k 0) c.requires.1)
