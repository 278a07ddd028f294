-- `wide::counts` meets its contract: its checks are the sizes, and a pass gives what a whole solve wants.
-- Assumes nothing.
use mathlib.Core.Path.{sym}
use Rattle.std.proofs.Common.{rules}
use Rattle.verdict.specs.Calls.{call}
use Rattle.wide.specs.WideCalls.{counts_call}
use Rattle.wide.proofs.Ready.{sized}
use Rattle.wide.proofs.counts.Goals as goal

pub wanted-requires : goal.wanted-requires
wanted-requires c = sized _ (sym c.in_ok-sizes.ensures)

pub returns-in_err-sizes : goal.returns-in_err-sizes
unfolding counts_call call
returns-in_err-sizes c = search rules

pub returns : goal.returns
unfolding counts_call call
returns c = search rules
