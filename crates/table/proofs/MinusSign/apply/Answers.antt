-- `table::Minus`: the difference is what the flag picks.
-- Assumes nothing.
use Rattle.table.specs.Steps.{signed}
use Rattle.table.proofs.MinusSign.apply.Goals as goal

pub returns : goal.returns
unfolding signed
returns c = c.sub.ensures
