-- Whatever meets solve's equation has its meaning, and its counters are those of the pattern of its pivots.
-- Assumes nothing.
use mathlib.Core.List.{List}
use mathlib.Core.Path.{◌≡◌}
use Prim.Native.Nat.{ℕ}
use lib.ListN.{length}
use Rattle.walk.specs.Act.{Held, held}
use Rattle.pattern.specs.declared.WideOrder.{WideOrder}
use Rattle.wide_walk.specs.declared.WideEnding.{WideEnding}
use Rattle.wide_walk.specs.WideWalk.{pattern_of}
use Rattle.wide_walk.proofs.Walked.{solved_counters}
use Rattle.wide_meaning.specs.WideMeaning.{Given}
use Rattle.wide_meaning.proofs.Meant.{meant}
use Rattle.verdict.specs.Calls.{Says, Outcome, after}
use Rattle.verdict.proofs.Calls.{outcome_holds}
use Rattle.wide.specs.WideCalls.{solve_call, TellsIn}
use Rattle.wide.proofs.Ready.{Solvable, solvable}

module _ (o : WideOrder) (t x mask nonzero : List ℕ) where
  pub lending : Solvable o t (length x) (length mask) nonzero → Given o nonzero t x
  lending d = record { sizes = d.sizes; table = d.lent.whole; solution = d.lent.room; nonzero = d.tapes.drawn }

  pub means : (a : Says WideEnding) (h : Held) → after a h ≡ solve_call o (held t x) mask nonzero → TellsIn o t a h.solution
  unfolding solve_call
  means a h e =
      outcome_holds (λ (l : Outcome WideEnding Held). TellsIn o t l.says l.left.solution) _ _ _ (after a h) e (λ l. tt)
      (λ p.
      let d = solvable o t (length x) (length mask) nonzero p in
      record {
        pivots = pattern_of o mask nonzero (held t x);
        meant = meant o mask nonzero t x (lending d);
        counted = solved_counters o d.sizes mask nonzero (held t x) d.lent.whole d.lent.room;
      })
