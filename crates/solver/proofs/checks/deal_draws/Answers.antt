-- `checks::deal_draws` meets its contract: n-1 draws for each entry.
-- Assumes nothing.
use Prim.Native.Nat.{◌-◌}
use native.Mathlib.Omega.{arith}
use Rattle.solver.specs.Refusals.{deal_draws}
use Rattle.solver.proofs.Ready.{sharing_small}
use Rattle.solver.proofs.checks.deal_draws.Goals as goal

pub overflow_mul-result : goal.overflow_mul-result
overflow_mul-result c = record { fits = omega (arith, sharing_small c.entry_count.result (c.args.o.shares - 1) (omega arith) (omega arith)) }

pub returns : goal.returns
unfolding deal_draws
returns c = rw c.entry_count.ensures.0
