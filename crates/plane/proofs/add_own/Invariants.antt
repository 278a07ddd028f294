-- row is a run of the shares so far.
use mathlib.Core.Path.{◌≡◌}
use Rattle.sharing.specs.Run.{run}
use Rattle.plane.specs.Code.Sums.{own_turn}
use Rattle.plane.proofs.add_own.Given as goal

abbrev pub invariant-loop-i : goal.invariant-loop-i
invariant-loop-i g l = l.row ≡ run (own_turn g.row.N l.g l.p l.q) l.i l.initial.row
