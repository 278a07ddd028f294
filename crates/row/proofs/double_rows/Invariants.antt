-- `row::double_rows` meets its contract. The loop's invariant: m is a run of the turns so far.
-- Assumes nothing.
use mathlib.Core.Path.{◌≡◌}
use Rattle.sharing.specs.Run.{run}
use Rattle.row.specs.Code.Streams.{double_turn}
use Rattle.row.proofs.double_rows.Given as goal

abbrev pub invariant-loop-q : goal.invariant-loop-q
invariant-loop-q g l = l.m ≡ run (double_turn g.row.BITS l.r) l.q l.initial.m
