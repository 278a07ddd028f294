-- `PairSums`' turn meets its contract: it is the definition's.
-- Assumes nothing.
use Rattle.std.proofs.Common.{refl}
use Rattle.flag.specs.Code.Passes.{sum_turn}
use Rattle.flag.proofs.PairSumsPairRule.turn.Goals as goal

pub returns : goal.returns
unfolding sum_turn
returns c = refl
