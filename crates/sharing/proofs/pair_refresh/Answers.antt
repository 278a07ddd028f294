-- `sharing::pair_refresh` meets its contract: its call is the rule.
-- Assumes nothing.
use Rattle.sharing.specs.Rules.{pair_refresh}
use Rattle.sharing.proofs.pair_refresh.Goals as goal

pub returns : goal.returns
unfolding pair_refresh
returns c = c.over_pairs.ensures
