-- `field_at` meets its contract: each check in its order, and the first that refuses stands.
-- Assumes nothing.
use Rattle.std.proofs.Common.{rules}
use Rattle.verdict.specs.Told.{◌or◌}
use Rattle.exchange.specs.Record.{ends, no16, unsuited, field_at}
use Rattle.exchange.proofs.field_at.Goals as goal

pub returns-in_err-refuse_if : goal.returns-in_err-refuse_if
unfolding field_at ends ◌or◌
returns-in_err-refuse_if c = search rules

pub returns-in_err-refuse_if-2 : goal.returns-in_err-refuse_if-2
unfolding field_at ends no16 ◌or◌
returns-in_err-refuse_if-2 c = search rules

pub returns-in_err-refuse_if-3 : goal.returns-in_err-refuse_if-3
unfolding field_at ends no16 ◌or◌
returns-in_err-refuse_if-3 c = search rules

pub returns-in_err-refuse_if-4 : goal.returns-in_err-refuse_if-4
unfolding field_at ends no16 unsuited ◌or◌
returns-in_err-refuse_if-4 c = search rules

pub returns : goal.returns
unfolding field_at ends no16 unsuited ◌or◌
returns c = search rules
