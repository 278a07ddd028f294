-- `checks::solve` meets its contract: each check in its order, and the first that refuses stands.
-- Assumes nothing.
use Rattle.std.proofs.Common.{rules}
use Rattle.verdict.specs.Told.{◌or◌}
use Rattle.solver.specs.Refusals.{solve_order}
use Rattle.verdict.proofs.Verdicts.{passes}
use Rattle.solver.proofs.Ready.{sized}
use Rattle.solver.proofs.checks.solve.Goals as goal

pub returns-in_err-sizes : goal.returns-in_err-sizes
unfolding solve_order ◌or◌
returns-in_err-sizes c = search rules

pub table_rows-requires : goal.table_rows-requires
table_rows-requires c = sized _ (passes _ _ _ c.sizes.ensures c.in_ok-sizes.was)

pub whole_table-requires : goal.whole_table-requires
whole_table-requires c = sized _ (passes _ _ _ c.sizes.ensures c.in_ok-sizes.was)

pub tapes-requires : goal.tapes-requires
tapes-requires c = sized _ (passes _ _ _ c.sizes.ensures c.in_ok-sizes.was)

pub returns-in_err-buffers : goal.returns-in_err-buffers
unfolding solve_order ◌or◌
returns-in_err-buffers c = search rules

pub returns : goal.returns
unfolding solve_order ◌or◌
returns c = search rules
