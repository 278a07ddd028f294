-- `field::inv256` meets its contract: the chain's rule.
-- Assumes nothing.
use mathlib.Core.Path.{◌∙◌}
use Rattle.field.proofs.Fields.{inverse254}
use Rattle.field.proofs.inv256.Goals as goal

pub returns : goal.returns
returns c = c.power254.ensures ∙ inverse254 c.ranges.a.fits
