-- `table::cell` meets its contract: the most rows of the most entries of four bytes are few enough that no product wraps.
-- Assumes nothing.
use mathlib.Core.Path.{refl}
use Rattle.table.specs.Layout.{cell}
use Rattle.table.proofs.cell.Goals as goal

pub returns : goal.returns
unfolding cell
returns c = refl
