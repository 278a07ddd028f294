-- `solver::counts` meets its contract: its checks are the sizes, and a pass gives the sums over the step list.
-- Assumes nothing.
use Rattle.std.proofs.Common.{rules}
use Rattle.verdict.specs.Calls.{call}
use Rattle.solver.specs.Calls.{counts_call}
use Rattle.verdict.proofs.Verdicts.{passes}
use Rattle.solver.proofs.Ready.{sized}
use Rattle.solver.proofs.counts.Goals as goal

pub returns-in_err-sizes : goal.returns-in_err-sizes
unfolding counts_call call
returns-in_err-sizes c = search rules

pub full_counts-requires : goal.full_counts-requires
full_counts-requires c = sized _ (passes _ _ _ c.sizes.ensures c.in_ok-sizes.was)

pub returns : goal.returns
unfolding counts_call call
returns c = search rules
