-- `row::spread` meets its contract. The loop's invariant: c is a run of the columns so far.
-- Assumes nothing.
use mathlib.Core.Path.{◌≡◌}
use Rattle.sharing.specs.Run.{run}
use Rattle.row.specs.Code.Spread.{spread_column}
use Rattle.row.proofs.spread.Given as goal

abbrev pub invariant-loop-u : goal.invariant-loop-u
invariant-loop-u g l = l.c ≡ run (spread_column g.row.N l.span l.z) l.u l.initial.c
