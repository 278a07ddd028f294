use native.Mathlib.Omega.{arith}
use Rattle.sharing.proofs.Loops.{run_none, run-next, run_done}
use Rattle.plane.specs.Code.Products.{word_turn, all_products}
use Rattle.plane.proofs.products.Goals as goal

pub loop-g-init : goal.loop-g-init
loop-g-init g c = run_none _ _

pub loop-g-preserved : goal.loop-g-preserved
unfolding word_turn
loop-g-preserved g c = run-next _ _ _ _ _ c.loop-g.invariant c.word_products.ensures

pub returns : goal.returns
unfolding all_products
returns g c = run_done _ _ _ _ _ c.loop-g.invariant (omega arith)
