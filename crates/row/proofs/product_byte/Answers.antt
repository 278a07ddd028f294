-- `row::product_byte` meets its contract. The loop's invariant: c is a run of the rows so far.
-- Assumes nothing.
use Rattle.sharing.proofs.Loops.{run_none, run-next}
use Rattle.row.specs.Code.Products.{byte_turn, byte_products}
use borrow.Author.Rules.{rules}
use Rattle.row.proofs.product_byte.Goals as goal

pub loop-d-init : goal.loop-d-init
loop-d-init g c = run_none _ _

pub loop-d-preserved : goal.loop-d-preserved
unfolding byte_turn
loop-d-preserved g c = run-next _ _ _ _ _ c.loop-d.invariant (rw c.term.ensures)

pub returns : goal.returns
unfolding byte_products
returns g c = search rules
