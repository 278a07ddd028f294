-- `read` meets its contract: a pass gives what the fields hold.
-- Assumes nothing.
use mathlib.Core.Path.{sym}
use Rattle.std.proofs.Common.{rules}
use Rattle.verdict.specs.Calls.{call}
use Rattle.verdict.proofs.Told.{left}
use Rattle.exchange.specs.Calls.{read_order, read_call}
use Rattle.exchange.proofs.read.Goals as goal

pub returns-in_err-read_check : goal.returns-in_err-read_check
unfolding read_call call
returns-in_err-read_check c = search rules

pub system_in-requires : goal.system_in-requires
unfolding read_order
system_in-requires c = left _ _ (sym (c.in_ok-read_check.ensures))

pub returns : goal.returns
unfolding read_call call
returns c = search rules
