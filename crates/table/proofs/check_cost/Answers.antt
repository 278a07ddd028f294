-- `table::check_cost` meets its contract: a flag's draws and an Opening's.
-- Assumes nothing.
use mathlib.Core.Path.{◌≡◌}
use Prim.Native.Nat.{◌+◌, ◌≤◌}
use native.Mathlib.Omega.{arith}
use Rattle.sharing.specs.Bounds.{most_draws}
use Rattle.table.specs.Costs.{check_cost}
use Rattle.table.proofs.CostBounds.{check_few}
use Rattle.table.proofs.check_cost.Goals as goal

pub overflow_add-result : goal.overflow_add-result
unfolding check_cost
overflow_add-result c =
    let check-is : c.flag_draws.result + c.pair_count.result ≡ check_cost c.args.f c.args.n =
    simp (c.flag_draws.ensures.0, c.pair_count.ensures) in
    let check-within : c.flag_draws.result + c.pair_count.result ≤ most_draws =
    rw check-is (check_few c.args.f c.args.n (omega arith)) in
    omega (arith, check-within)

pub returns : goal.returns
unfolding check_cost
returns c =
    let check-is : c.flag_draws.result + c.pair_count.result ≡ check_cost c.args.f c.args.n =
    simp (c.flag_draws.ensures.0, c.pair_count.ensures) in
    let check-within : c.flag_draws.result + c.pair_count.result ≤ most_draws =
    rw check-is (check_few c.args.f c.args.n (omega arith)) in
    (check-is, check-within)
