-- `checks::whole_table` meets its contract: n bytes for each entry.
-- Assumes nothing.
use native.Mathlib.Omega.{arith}
use Rattle.table.specs.Layout.{table_bytes}
use Rattle.solver.specs.Refusals.{entries}
use Rattle.solver.proofs.Ready.{sharing_small}
use Rattle.solver.proofs.checks.whole_table.Goals as goal

pub overflow_mul-result : goal.overflow_mul-result
overflow_mul-result c = record { fits = omega (arith, sharing_small c.entry_count.result c.args.o.shares (omega arith) (omega arith)) }

pub returns : goal.returns
unfolding table_bytes entries
returns c = rw c.entry_count.ensures.0
