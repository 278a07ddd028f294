-- `checks::sizes` meets its contract: each check in its order, and the first that refuses stands.
-- Assumes nothing.
use Rattle.std.proofs.Common.{rules}
use Rattle.verdict.specs.Told.{◌or◌}
use Rattle.wide.specs.WideRefusals.{sizes}
use Rattle.wide.proofs.checks.sizes.Goals as goal

pub returns-in_err-no1 : goal.returns-in_err-no1
unfolding sizes ◌or◌
returns-in_err-no1 c = search rules

pub returns-in_err-no2 : goal.returns-in_err-no2
unfolding sizes ◌or◌
returns-in_err-no2 c = search rules

pub returns-in_err-no3 : goal.returns-in_err-no3
unfolding sizes ◌or◌
returns-in_err-no3 c = search rules

pub returns : goal.returns
unfolding sizes ◌or◌
returns c = search rules
