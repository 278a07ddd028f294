-- row is a run of the words so far.
use mathlib.Core.Path.{◌≡◌}
use Rattle.sharing.specs.Run.{run}
use Rattle.plane.specs.Code.Sums.{word_sums}
use Rattle.plane.proofs.combine.Given as goal

abbrev pub invariant-loop-u : goal.invariant-loop-u
invariant-loop-u g l = l.row ≡ run (word_sums g.row.N l.p l.z) l.u l.initial.row
