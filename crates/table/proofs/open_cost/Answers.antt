-- `table::open_cost` meets its contract: an Opening's draws.
-- Assumes nothing.
use native.Mathlib.Omega.{arith}
use Rattle.table.specs.Costs.{open_cost}
use Rattle.table.proofs.CostBounds.{open_few}
use Rattle.table.proofs.open_cost.Goals as goal

pub returns : goal.returns
unfolding open_cost
returns c = (c.pair_count.ensures, rw c.pair_count.ensures (open_few c.args.n (omega arith)))
