-- `solver::wanted` meets its contract: a pass gives the draws of the place.
-- Assumes nothing.
use Rattle.std.proofs.Common.{rules}
use Rattle.verdict.specs.Calls.{call}
use Rattle.solver.specs.Calls.{wanted_call}
use Rattle.verdict.proofs.Verdicts.{passes}
use Rattle.solver.proofs.Ready.{wanting}
use Rattle.solver.proofs.wanted.Goals as goal

pub returns-in_err-wanted : goal.returns-in_err-wanted
unfolding wanted_call call
returns-in_err-wanted c = search rules

pub cost_at-requires-clause-sizes : goal.cost_at-requires-clause-sizes
cost_at-requires-clause-sizes c = rw c.order.ensures (wanting _ (passes _ _ _ c.wanted.ensures c.in_ok-wanted.was)).0

pub cost_at-requires-clause-p_value : goal.cost_at-requires-clause-p_value
cost_at-requires-clause-p_value c = rw c.order.ensures (wanting _ (passes _ _ _ c.wanted.ensures c.in_ok-wanted.was)).1.listed

pub returns : goal.returns
unfolding wanted_call call
returns c = search rules
