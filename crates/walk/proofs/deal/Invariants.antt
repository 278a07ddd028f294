-- `walk::deal` meets its contract. The loop's invariant: the table is a run of the turns so far.
-- Assumes nothing.
use mathlib.Core.Path.{◌≡◌}
use Rattle.sharing.specs.Run.{run}
use Rattle.table.specs.Steps.{column_turn}
use Rattle.walk.specs.Dealing.{deal_turn}
use Rattle.walk.proofs.deal.Given as goal

abbrev pub invariant-loop-i : goal.invariant-loop-i
invariant-loop-i l = l.table ≡ run (column_turn l.n (deal_turn l.f l.n l.values l.mask)) l.i l.initial.table
