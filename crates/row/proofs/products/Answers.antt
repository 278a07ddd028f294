-- `row::products` meets its contract. The loop's invariant: c is a run of the blocks so far.
-- Assumes nothing.
use Rattle.sharing.proofs.Loops.{run_none, run-next}
use Rattle.row.specs.Code.Products.{block_products, all_products}
use borrow.Author.Rules.{rules}
use Rattle.row.proofs.products.Goals as goal

pub loop-u-init : goal.loop-u-init
loop-u-init g c = run_none _ _

pub loop-u-preserved : goal.loop-u-preserved
unfolding block_products
loop-u-preserved g c = run-next _ _ _ _ _ c.loop-u.invariant c.product_block.ensures

pub returns : goal.returns
unfolding all_products
returns g c = search rules
