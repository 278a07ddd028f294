-- `row::spread` meets its contract. The loop's invariant: c is a run of the columns so far.
-- Assumes nothing.
use Rattle.sharing.proofs.Loops.{run_none, run-next}
use Rattle.row.specs.Code.Spread.{spread_column, spread_all}
use borrow.Author.Rules.{rules}
use Rattle.row.proofs.spread.Goals as goal

pub loop-u-init : goal.loop-u-init
loop-u-init g c = run_none _ _

pub loop-u-preserved : goal.loop-u-preserved
unfolding spread_column
loop-u-preserved g c = run-next _ _ _ _ _ c.loop-u.invariant (rw (c.spread_column.ensures, c.pair_count-np.ensures))

pub returns : goal.returns
unfolding spread_all
returns g c = search rules
