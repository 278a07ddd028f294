-- `table::Plus`: the sum is what the flag picks.
-- Assumes nothing.
use Rattle.table.specs.Steps.{signed}
use Rattle.table.proofs.PlusSign.apply.Goals as goal

pub returns : goal.returns
unfolding signed
returns c = c.add.ensures
