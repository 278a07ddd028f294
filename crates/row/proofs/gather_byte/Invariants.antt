-- `row::gather_byte` meets its contract. The loop's invariant: v is a run of the turns so far.
-- Assumes nothing.
use mathlib.Core.Path.{◌≡◌}
use lib.ListN.{get_or}
use Rattle.sharing.specs.Run.{run}
use Rattle.row.specs.Code.Gather.{gather_turn}
use Rattle.row.proofs.gather_byte.Given as goal

abbrev pub invariant-loop-i : goal.invariant-loop-i
invariant-loop-i g l = l.v ≡ run (gather_turn g.row.N l.span l.c l.o l.q) l.i (get_or l.c l.o 0)
