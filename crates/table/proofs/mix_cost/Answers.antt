-- `table::mix_cost` meets its contract: a flag's draws, and a Product's for each column.
-- Assumes nothing.
use mathlib.Core.Path.{◌≡◌}
use Prim.Native.Nat.{◌+◌, ◌*◌, ◌≤◌}
use native.Mathlib.Omega.{arith}
use Rattle.sharing.specs.Bounds.{most_draws}
use Rattle.table.specs.Costs.{mix_cost}
use Rattle.table.proofs.CostBounds.{mix_few}
use Rattle.table.proofs.mix_cost.Goals as goal

pub overflow_mul-result : goal.overflow_mul-result
unfolding mix_cost
overflow_mul-result c =
    let mix-is : c.flag_draws.result + c.args.l * c.pair_count.result ≡ mix_cost c.args.f c.args.n c.args.l =
    simp (c.flag_draws.ensures.0, c.pair_count.ensures) in
    let mix-within : c.flag_draws.result + c.args.l * c.pair_count.result ≤ most_draws =
    rw mix-is (mix_few c.args.f c.args.n c.args.l (omega arith) (omega arith)) in
    omega (arith, mix-within)

pub overflow_add-result : goal.overflow_add-result
unfolding mix_cost
overflow_add-result c =
    let mix-is : c.flag_draws.result + c.args.l * c.pair_count.result ≡ mix_cost c.args.f c.args.n c.args.l =
    simp (c.flag_draws.ensures.0, c.pair_count.ensures) in
    let mix-within : c.flag_draws.result + c.args.l * c.pair_count.result ≤ most_draws =
    rw mix-is (mix_few c.args.f c.args.n c.args.l (omega arith) (omega arith)) in
    omega (arith, mix-within)

pub returns : goal.returns
unfolding mix_cost
returns c =
    let mix-is : c.flag_draws.result + c.args.l * c.pair_count.result ≡ mix_cost c.args.f c.args.n c.args.l =
    simp (c.flag_draws.ensures.0, c.pair_count.ensures) in
    let mix-within : c.flag_draws.result + c.args.l * c.pair_count.result ≤ most_draws =
    rw mix-is (mix_few c.args.f c.args.n c.args.l (omega arith) (omega arith)) in
    (mix-is, mix-within)
