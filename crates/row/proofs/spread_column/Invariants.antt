-- `row::spread_column` meets its contract. The loop's invariant: c is a run over the pairs of the first i places.
-- Assumes nothing.
use mathlib.Core.Path.{◌≡◌}
use Rattle.sharing.specs.Run.{run, before, pairs_of}
use Rattle.row.specs.Code.Spread.{spread_turn}
use Rattle.row.proofs.spread_column.Given as goal

abbrev pub invariant-loop-i : goal.invariant-loop-i
invariant-loop-i g l = (l.at ≡ before g.row.N l.i) × (l.c ≡ run (pairs_of (spread_turn l.span l.z l.a l.b) g.row.N) l.i l.initial.c)
