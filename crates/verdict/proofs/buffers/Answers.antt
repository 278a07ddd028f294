-- `buffers` meets its contract: each check in its order, and the first that refuses stands.
-- Assumes nothing.
use Rattle.std.proofs.Common.{rules}
use Rattle.verdict.specs.Told.{◌or◌}
use Rattle.verdict.specs.Refusals.{buffers}
use Rattle.verdict.proofs.buffers.Goals as goal

pub returns-in_err-no4 : goal.returns-in_err-no4
unfolding buffers ◌or◌
returns-in_err-no4 c = search rules

pub returns-in_err-no5 : goal.returns-in_err-no5
unfolding buffers ◌or◌
returns-in_err-no5 c = search rules

pub returns : goal.returns
unfolding buffers ◌or◌
returns c = search rules
