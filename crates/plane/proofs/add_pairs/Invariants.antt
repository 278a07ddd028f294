-- row is a run of the pairs of the first i shares.
use mathlib.Core.Path.{◌≡◌}
use Prim.Native.Nat.{◌+◌}
use Rattle.sharing.specs.Run.{run, before}
use Rattle.plane.specs.Code.Sums.{pairs_turn}
use Rattle.plane.proofs.add_pairs.Given as goal

abbrev pub invariant-loop-i : goal.invariant-loop-i
invariant-loop-i g l = (l.at ≡ l.k + before g.row.N l.i) × (l.row ≡ run (pairs_turn g.row.N l.g l.p l.q l.z l.k) l.i l.initial.row)
