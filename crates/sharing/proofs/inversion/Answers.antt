-- `sharing::inversion` meets its contract: the last factor is the inverse of the value that was opened.
-- Assumes nothing.
use mathlib.Core.Path.{refl}
use Rattle.sharing.specs.Rules.{factors}
use Rattle.sharing.proofs.inversion.Goals as goal

pub returns : goal.returns
unfolding factors
returns c = (refl, rw (c.inverse-last.ensures, c.blinded_value-u.ensures) at c.factor_list.ensures)
