-- `CrossTerms`' turn meets its contract: it is the definition's.
-- Assumes nothing.
use Rattle.std.proofs.Common.{refl}
use Rattle.flag.specs.Code.Passes.{cross_turn}
use Rattle.flag.proofs.CrossTermsPairRule.turn.Goals as goal

pub returns : goal.returns
unfolding cross_turn
returns c = refl
