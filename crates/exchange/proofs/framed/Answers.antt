-- `framed` meets its contract: each field in its order, and the first that is refused stands.
-- Assumes nothing.
use mathlib.Core.Path.{sym}
use native.Mathlib.Omega.{arith}
use Rattle.std.proofs.Common.{rules}
use Rattle.verdict.specs.Told.{◌or◌}
use Rattle.exchange.specs.Record.{framed}
use Rattle.exchange.proofs.Fields.{field_says}
use Rattle.exchange.proofs.framed.Goals as goal

pub returns-in_err-field_at : goal.returns-in_err-field_at
unfolding framed ◌or◌
returns-in_err-field_at c = search rules

pub returns-in_err-field_at-2 : goal.returns-in_err-field_at-2
unfolding framed ◌or◌
returns-in_err-field_at-2 c = search rules

pub returns-in_err-field_at-3 : goal.returns-in_err-field_at-3
unfolding framed ◌or◌
returns-in_err-field_at-3 c = search rules

pub returns-in_err-field_at-4 : goal.returns-in_err-field_at-4
unfolding framed ◌or◌
returns-in_err-field_at-4 c = search rules

pub number_at-requires : goal.number_at-requires
number_at-requires c = omega (arith, (field_says _ 13 4 0 65535 (sym (c.in_ok-field_at-4.ensures))).whole)

pub returns : goal.returns
unfolding framed ◌or◌
returns c = search rules
