-- `checks::solve` meets its contract: each check in its order, and what is lent is looked at where the sizes pass.
-- Assumes nothing.
use mathlib.Core.Path.{sym}
use Rattle.std.proofs.Common.{rules}
use Rattle.verdict.specs.Told.{◌or◌}
use Rattle.wide.specs.WideRefusals.{solve_order}
use Rattle.wide.proofs.Ready.{sized}
use Rattle.wide.proofs.checks.solve.Goals as goal

pub returns-in_err-sizes : goal.returns-in_err-sizes
unfolding solve_order ◌or◌
returns-in_err-sizes c = search rules

pub table_rows-requires : goal.table_rows-requires
table_rows-requires c = sized _ (sym c.in_ok-sizes.ensures)

pub whole_table-requires : goal.whole_table-requires
whole_table-requires c = sized _ (sym c.in_ok-sizes.ensures)

pub returns-in_err-buffers : goal.returns-in_err-buffers
unfolding solve_order ◌or◌
returns-in_err-buffers c = search rules

pub wanted-d-requires : goal.wanted-d-requires
wanted-d-requires c = sized _ (sym c.in_ok-sizes.ensures)

pub returns : goal.returns
unfolding solve_order ◌or◌
returns c = search rules
