-- `checks::cost_at` meets its contract, place by place.
-- Assumes nothing.
use Rattle.std.proofs.Common.{rules}
use Rattle.wide.specs.WideRefusals.{cost_at}
use Rattle.wide.proofs.Ready.{works_at}
use Rattle.wide.proofs.checks.cost_at.Goals as goal

pub cost-requires-clause-bound : goal.cost-requires-clause-bound
cost-requires-clause-bound c =
    let w = works_at c.args.p c.in-At.s c.requires.sizes (search rules) c.requires.p_value c.in-At.is in (w.column_low, w.column_high)

pub returns-in-At : goal.returns-in-At
unfolding cost_at
returns-in-At c = search rules

pub returns-in-Short : goal.returns-in-Short
unfolding cost_at
returns-in-Short c = search rules
