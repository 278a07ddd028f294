-- `exactly` meets its contract: each check in its order, and the first that refuses stands.
-- Assumes nothing.
use Rattle.std.proofs.Common.{rules}
use Rattle.verdict.specs.Told.{◌or◌}
use Rattle.verdict.specs.Refusals.{exactly}
use Rattle.verdict.proofs.exactly.Goals as goal

pub returns-in_err-no7 : goal.returns-in_err-no7
unfolding exactly ◌or◌
returns-in_err-no7 c = search rules

pub returns-in_err-no14 : goal.returns-in_err-no14
unfolding exactly ◌or◌
returns-in_err-no14 c = search rules

pub returns-in_err-no8 : goal.returns-in_err-no8
unfolding exactly ◌or◌
returns-in_err-no8 c = search rules

pub returns-in_err-no15 : goal.returns-in_err-no15
unfolding exactly ◌or◌
returns-in_err-no15 c = search rules

pub returns : goal.returns
unfolding exactly ◌or◌
returns c = search rules
