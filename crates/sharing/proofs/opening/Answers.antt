-- `sharing::opening` meets its contract: what is summed is what s is left as, its pair refresh.
-- Assumes nothing.
use Rattle.sharing.specs.Rules.{opening}
use Rattle.sharing.proofs.opening.Goals as goal

pub returns : goal.returns
unfolding opening
returns c =
    let refreshed = c.pair_refresh.ensures in
    (rw refreshed at c.sum.ensures, refreshed)
