-- `row::spread_column` meets its contract. The loop's invariant: c is a run over the pairs of the first i places.
-- Assumes nothing.
use native.Mathlib.Omega.{arith}
use native.Mathlib.Numerals.{add-one}
use Rattle.sharing.specs.Run.{over_pairs}
use Rattle.sharing.proofs.Loops.{run_none, run-next}
use Rattle.sharing.proofs.Pairs.{pairs_room}
use borrow.Author.Rules.{rules}
use Rattle.row.proofs.spread_column.Goals as goal

pub loop-i-init : goal.loop-i-init
loop-i-init g c = (search rules, run_none _ _)

pub overflow_add-at : goal.overflow_add-at
overflow_add-at g c = omega (arith, pairs_room g.row.N c.loop-i.i (omega arith))

pub loop-i-preserved : goal.loop-i-preserved
loop-i-preserved g c = (rw add-one (omega arith), run-next _ _ _ _ _ c.loop-i.invariant.1 c.spread_of.ensures)

pub returns : goal.returns
unfolding over_pairs
returns g c = search rules
