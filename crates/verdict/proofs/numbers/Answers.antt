-- `numbers` meets its contract: each check in its order, and the first that refuses stands.
-- Assumes nothing.
use Rattle.std.proofs.Common.{rules}
use Rattle.verdict.specs.Told.{◌or◌}
use Rattle.verdict.specs.Refusals.{numbers}
use Rattle.verdict.proofs.numbers.Goals as goal

pub returns-in_err-no1 : goal.returns-in_err-no1
unfolding numbers ◌or◌
returns-in_err-no1 c = search rules

pub returns-in_err-no2 : goal.returns-in_err-no2
unfolding numbers ◌or◌
returns-in_err-no2 c = search rules

pub returns : goal.returns
unfolding numbers ◌or◌
returns c = search rules
