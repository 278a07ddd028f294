-- `read_check` meets its contract: each check in its order, and the first that refuses stands.
-- Assumes nothing.
use mathlib.Core.Path.{sym}
use native.Mathlib.Omega.{arith}
use Rattle.std.proofs.Common.{rules}
use Rattle.verdict.specs.Told.{◌or◌}
use Rattle.exchange.specs.Calls.{no18, read_order}
use Rattle.exchange.proofs.Fields.{room}
use Rattle.exchange.proofs.read_check.Goals as goal

pub returns-in_err-framed : goal.returns-in_err-framed
unfolding read_order ◌or◌
returns-in_err-framed c = search rules

pub number_at-requires : goal.number_at-requires
number_at-requires c = (omega arith, omega (arith, room _ (sym (c.in_ok-framed.ensures))))

pub returns-in_err-refuse_if : goal.returns-in_err-refuse_if
unfolding read_order no18 ◌or◌
returns-in_err-refuse_if c = search rules

pub holding-requires : goal.holding-requires
holding-requires c = sym (c.in_ok-framed.ensures)

pub returns : goal.returns
unfolding read_order no18 ◌or◌
returns c = search rules
