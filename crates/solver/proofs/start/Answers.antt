-- `solver::start` meets its contract: its checks are the sizes, and a pass gives the record at the first place.
-- Assumes nothing.
use Rattle.std.proofs.Common.{rules}
use Rattle.verdict.specs.Calls.{call}
use Rattle.solver.specs.Calls.{start_call}
use Rattle.solver.proofs.start.Goals as goal

pub returns-in_err-sizes : goal.returns-in_err-sizes
unfolding start_call call
returns-in_err-sizes c = search rules

pub returns : goal.returns
unfolding start_call call
returns c = search rules
