-- `checks::deal` meets its contract: each check in its order, and the first that refuses stands.
-- Assumes nothing.
use Rattle.std.proofs.Common.{rules}
use Rattle.verdict.specs.Told.{◌or◌}
use Rattle.solver.specs.Refusals.{deal_order}
use Rattle.verdict.proofs.Verdicts.{passes}
use Rattle.solver.proofs.Ready.{sized}
use Rattle.solver.proofs.checks.deal.Goals as goal

pub returns-in_err-sizes : goal.returns-in_err-sizes
unfolding deal_order ◌or◌
returns-in_err-sizes c = search rules

pub value_rows-requires : goal.value_rows-requires
value_rows-requires c = sized _ (passes _ _ _ c.sizes.ensures c.in_ok-sizes.was)

pub entry_count-requires : goal.entry_count-requires
entry_count-requires c = (sized _ (passes _ _ _ c.sizes.ensures c.in_ok-sizes.was)).most

pub whole_table-requires : goal.whole_table-requires
whole_table-requires c = sized _ (passes _ _ _ c.sizes.ensures c.in_ok-sizes.was)

pub deal_draws-requires : goal.deal_draws-requires
deal_draws-requires c = sized _ (passes _ _ _ c.sizes.ensures c.in_ok-sizes.was)

pub returns-in_err-buffers : goal.returns-in_err-buffers
unfolding deal_order ◌or◌
returns-in_err-buffers c = search rules

pub returns : goal.returns
unfolding deal_order ◌or◌
returns c = search rules
