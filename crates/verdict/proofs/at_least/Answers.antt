-- `at_least` meets its contract: each check in its order, and the first that refuses stands.
-- Assumes nothing.
use Rattle.std.proofs.Common.{rules}
use Rattle.verdict.specs.Told.{◌or◌}
use Rattle.verdict.specs.Refusals.{at_least}
use Rattle.verdict.proofs.at_least.Goals as goal

pub returns-in_err-no7 : goal.returns-in_err-no7
unfolding at_least ◌or◌
returns-in_err-no7 c = search rules

pub returns-in_err-no8 : goal.returns-in_err-no8
unfolding at_least ◌or◌
returns-in_err-no8 c = search rules

pub returns : goal.returns
unfolding at_least ◌or◌
returns c = search rules
