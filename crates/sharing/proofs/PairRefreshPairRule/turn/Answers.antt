-- `PairRefresh`'s turn meets its contract: the draw is the tape's at the pair's number.
-- Assumes nothing.
use Rattle.sharing.specs.Rules.{pair_refresh_turn}
use Rattle.sharing.proofs.PairRefreshPairRule.turn.Goals as goal

pub returns : goal.returns
unfolding pair_refresh_turn
returns c = rw c.draw.ensures at c.join.ensures
