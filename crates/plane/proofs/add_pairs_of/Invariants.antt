-- row is a run of i's pairs so far.
use mathlib.Core.Path.{◌≡◌}
use Rattle.sharing.specs.Run.{run}
use Rattle.plane.specs.Code.Sums.{pair_turn}
use Rattle.plane.proofs.add_pairs_of.Given as goal

abbrev pub invariant-loop-v : goal.invariant-loop-v
invariant-loop-v g l = l.row ≡ run (pair_turn g.row.N l.g l.p l.q l.z l.k l.i) l.v l.initial.row
