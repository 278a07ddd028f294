-- `checks::entry_count` meets its contract: m(m+1) is not large.
-- Assumes nothing.
use mathlib.Core.Path.{refl}
use native.Mathlib.Omega.{arith}
use Rattle.solver.specs.Refusals.{entries}
use Rattle.solver.proofs.Ready.{entries-small}
use Rattle.solver.proofs.checks.entry_count.Goals as goal

pub overflow_mul-result : goal.overflow_mul-result
unfolding entries
overflow_mul-result c = record { fits = omega (arith, entries-small c.args.m c.requires) }

pub returns : goal.returns
unfolding entries
returns c = (refl, entries-small c.args.m c.requires)
