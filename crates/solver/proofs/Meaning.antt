-- Demands 2 and 3 of the call: whatever meets solve's equation has its meaning, and its counters are 01's sums.
-- Assumes nothing.
use mathlib.Core.List.{List}
use mathlib.Core.Path.{◌≡◌}
use Prim.Native.Nat.{ℕ}
use lib.ListN.{length}
use Rattle.course.specs.declared.Order.{Order}
use Rattle.walk.specs.declared.Ending.{Ending}
use Rattle.walk.specs.Act.{Held, held}
use Rattle.walk.proofs.Counted.{solved_counters}
use Rattle.meaning.specs.Claims.{Given}
use Rattle.meaning.proofs.Meant.{meant}
use Rattle.verdict.specs.Calls.{Says, Outcome, after}
use Rattle.solver.specs.Calls.{solve_call, Tells, Taken}
use Rattle.verdict.proofs.Calls.{outcome_holds}
use Rattle.solver.proofs.Ready.{Solvable, solvable}

module _ (o : Order) (t x mask nonzero : List ℕ) where
  pub lending : Solvable o t (length x) (length mask) nonzero → Given o nonzero t x
  lending d = record { sizes = d.sizes; table = d.lent.whole; solution = d.lent.room; nonzero = d.tapes.drawn }

  pub means : (a : Says Ending) (h : Held) → after a h ≡ solve_call o (held t x) mask nonzero → Tells o t a h.solution
  unfolding solve_call
  means a h e =
      outcome_holds (λ (l : Outcome Ending Held). Tells o t l.says l.left.solution) _ _ _ (after a h) e (λ l. tt)
      (λ p. meant o mask nonzero t x (lending (solvable o t (length x) (length mask) nonzero p)))

  pub takes : (a : Says Ending) (h : Held) → after a h ≡ solve_call o (held t x) mask nonzero → Taken o a
  unfolding solve_call
  takes a h e =
      outcome_holds (λ (l : Outcome Ending Held). Taken o l.says) _ _ _ (after a h) e (λ l. tt)
      (λ p. solved_counters o mask nonzero (solvable o t (length x) (length mask) nonzero p).sizes.some (held t x))
