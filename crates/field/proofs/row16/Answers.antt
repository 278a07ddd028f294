-- `field::row16` meets its contract: the table's row.
-- Assumes nothing.
use Rattle.field.proofs.Products.{rows, row-entry}
use Rattle.field.proofs.row16.Goals as goal

pub returns : goal.returns
unfolding rows
returns c = rw c.from-i.ensures (record { at = λ b. row-entry c.args.a b })
