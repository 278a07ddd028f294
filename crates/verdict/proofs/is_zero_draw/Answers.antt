-- `is_zero_draw` meets its contract: `draw` gives the draw of the byte.
-- Assumes nothing.
use Rattle.verdict.specs.Refusals.{zero_draw}
use Rattle.verdict.proofs.is_zero_draw.Goals as goal

pub returns : goal.returns
unfolding zero_draw
returns c = rw c.draw.ensures
