-- `row::gather` meets its contract. The loop's invariant: out is a run of the blocks so far.
-- Assumes nothing.
use mathlib.Core.Path.{◌≡◌}
use Rattle.sharing.specs.Run.{run}
use Rattle.row.specs.Code.Gather.{gather_block}
use Rattle.row.proofs.gather.Given as goal

abbrev pub invariant-loop-u : goal.invariant-loop-u
invariant-loop-u g l = l.out ≡ run (gather_block g.row.N g.row.BLOCK l.span l.c) l.u l.initial.out
