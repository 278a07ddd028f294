-- `wide::start` meets its contract: its checks are the sizes, and a pass gives the record at the first place.
-- Assumes nothing.
use mathlib.Core.Path.{sym}
use Rattle.std.proofs.Common.{rules}
use Rattle.verdict.specs.Calls.{call}
use Rattle.wide.specs.WideCalls.{start_call}
use Rattle.wide.proofs.Ready.{sized}
use Rattle.wide.proofs.start.Goals as goal

pub start-requires : goal.start-requires
start-requires c = sized _ (sym c.in_ok-sizes.ensures)

pub returns-in_err-sizes : goal.returns-in_err-sizes
unfolding start_call call
returns-in_err-sizes c = search rules

pub returns : goal.returns
unfolding start_call call
returns c = search rules
