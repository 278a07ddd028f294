-- `sharing::inversion_draws` meets its contract: up to n = 4 neither the square nor the sum is large.
-- Assumes nothing.
use native.Mathlib.Omega.{arith}
use Rattle.sharing.specs.Rules.{inversion_draws}
use Rattle.sharing.proofs.Pairs.{pairs_small}
use Rattle.sharing.proofs.Draws.{blinding_few, inversion_few}
use Rattle.sharing.proofs.inversion_draws.Goals as goal

pub overflow_mul-result : goal.overflow_mul-result
overflow_mul-result c = omega (arith, blinding_few c.args.n (omega arith))

pub overflow_add-result : goal.overflow_add-result
overflow_add-result c = omega (arith, blinding_few c.args.n (omega arith), pairs_small c.args.n (omega arith))

pub returns : goal.returns
unfolding inversion_draws
returns c = (rw c.pair_count.ensures, rw c.pair_count.ensures (inversion_few c.args.n (omega arith)))
