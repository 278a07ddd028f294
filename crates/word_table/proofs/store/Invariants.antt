-- The table is a run of the rows so far.
use mathlib.Core.Path.{◌≡◌}
use Rattle.sharing.specs.Run.{run}
use Rattle.word_table.proofs.Storing.{store_turn}
use Rattle.word_table.proofs.store.Given as goal

abbrev pub invariant-loop-r : goal.invariant-loop-r
invariant-loop-r l = l.table ≡ run (store_turn l.n l.w l.words) l.r l.initial.table
