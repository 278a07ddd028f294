-- `flag::fold_draws` meets its contract: up to n = 4 the sum is not large.
-- Assumes nothing.
use native.Mathlib.Omega.{arith}
use Rattle.sharing.proofs.Pairs.{pairs_small}
use Rattle.flag.specs.Flag.{fold_draws}
use Rattle.flag.proofs.fold_draws.Goals as goal

pub overflow_mul-result : goal.overflow_mul-result
overflow_mul-result c = omega (arith, pairs_small c.args.n (omega arith))

pub returns : goal.returns
unfolding fold_draws
returns c = (rw c.pair_count.ensures, omega (arith, pairs_small c.args.n (omega arith)))
