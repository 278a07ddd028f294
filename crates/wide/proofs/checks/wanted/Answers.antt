-- `checks::wanted` meets its contract: each check in its order, and the record is looked at where the sizes pass.
-- Assumes nothing.
use mathlib.Core.Path.{sym}
use Rattle.std.proofs.Common.{rules}
use Rattle.verdict.specs.Told.{◌or◌}
use Rattle.wide.specs.WideRefusals.{wanted_order}
use Rattle.wide.proofs.Ready.{sized}
use Rattle.wide.proofs.checks.wanted.Goals as goal

pub returns-in_err-sizes : goal.returns-in_err-sizes
unfolding wanted_order ◌or◌
returns-in_err-sizes c = search rules

pub standing-requires : goal.standing-requires
standing-requires c = sized _ (sym c.in_ok-sizes.ensures)

pub returns : goal.returns
unfolding wanted_order ◌or◌
returns c = search rules
