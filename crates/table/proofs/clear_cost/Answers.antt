-- `table::clear_cost` meets its contract: a Product's draws for each column.
-- Assumes nothing.
use mathlib.Core.Path.{◌≡◌}
use Prim.Native.Nat.{◌*◌, ◌≤◌}
use native.Mathlib.Omega.{arith}
use Rattle.sharing.specs.Bounds.{most_columns}
use Rattle.table.specs.Costs.{clear_cost}
use Rattle.table.proofs.CostBounds.{clear_few}
use Rattle.table.proofs.clear_cost.Goals as goal
use Rattle.table.proofs.clear_cost.Goals.{After-pair_count}

clear-is : (c : After-pair_count) → c.args.l * c.pair_count.result ≡ clear_cost c.args.n c.args.l
unfolding clear_cost
clear-is c = simp c.pair_count.ensures

clear_within : (c : After-pair_count) → c.args.l * c.pair_count.result ≤ most_columns * 6
clear_within c = rw (clear-is c) (clear_few c.args.n c.args.l (omega arith) (omega arith))

pub overflow_mul-result : goal.overflow_mul-result
overflow_mul-result c = omega (arith, clear_within c)

pub returns : goal.returns
returns c = (clear-is c, omega (arith, clear_within c))
