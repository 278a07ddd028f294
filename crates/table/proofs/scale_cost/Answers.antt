-- `table::scale_cost` meets its contract: an Inversion's draws, and a Refresh's for each factor and column.
-- Assumes nothing.
use mathlib.Core.Path.{◌≡◌}
use Prim.Native.Nat.{◌+◌, ◌-◌, ◌*◌, ◌≤◌}
use native.Mathlib.Omega.{arith}
use Rattle.sharing.specs.Bounds.{most_draws}
use Rattle.table.specs.Costs.{scale_cost}
use Rattle.table.proofs.CostBounds.{scale_few}
use Rattle.table.proofs.scale_cost.Goals as goal
use Rattle.table.proofs.scale_cost.Goals.{After-inversion_draws}

scale-is : (c : After-inversion_draws) → let n = c.args.n in c.inversion_draws.result + n * (n - 1) * c.args.l ≡ scale_cost n c.args.l
unfolding scale_cost
scale-is c = simp c.inversion_draws.ensures.0

scale-within : (c : After-inversion_draws) → let n = c.args.n in c.inversion_draws.result + n * (n - 1) * c.args.l ≤ most_draws
scale-within c = rw (scale-is c) (scale_few c.args.n c.args.l (omega arith) (omega arith))

pub returns : goal.returns
returns c = (scale-is c, scale-within c)
