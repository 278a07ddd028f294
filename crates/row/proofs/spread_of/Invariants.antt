-- `row::spread_of` meets its contract. The loop's invariant: c is a run of the turns of i's pairs so far.
-- Assumes nothing.
use mathlib.Core.Path.{◌≡◌}
use Rattle.sharing.specs.Run.{run, pair_turn}
use Rattle.row.specs.Code.Spread.{spread_turn}
use Rattle.row.proofs.spread_of.Given as goal

abbrev pub invariant-loop-v : goal.invariant-loop-v
invariant-loop-v g l = l.c ≡ run (pair_turn (spread_turn l.span l.z l.a l.b) g.row.N l.i) l.v l.initial.c
