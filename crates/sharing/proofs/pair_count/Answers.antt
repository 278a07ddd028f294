-- `sharing::pair_count` meets its contract: before n n is n(n-1)/2.
-- Assumes nothing.
use Rattle.sharing.proofs.Pairs.{pairs_count}
use Rattle.sharing.proofs.pair_count.Goals as goal

pub returns : goal.returns
returns c = pairs_count c.args.n
