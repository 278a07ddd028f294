-- `checks::cost_at` meets its contract, place by place; a step that is placed is one of the list.
-- Assumes nothing.
use Rattle.std.proofs.Common.{rules}
use Rattle.solver.specs.Refusals.{cost_at}
use Rattle.solver.proofs.Ready.{at-step}
use Rattle.solver.proofs.checks.cost_at.Goals as goal

pub cost-requires-clause-s_value : goal.cost-requires-clause-s_value
cost-requires-clause-s_value c = at-step c.args.o _ _ c.in-At.is c.requires.p_value

pub returns-in-At : goal.returns-in-At
unfolding cost_at
returns-in-At c = simp (c.in-At.is, c.cost.ensures)

pub returns-in-Stopped : goal.returns-in-Stopped
unfolding cost_at
returns-in-Stopped c = search rules
