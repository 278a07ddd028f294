use mathlib.Core.Path.{ap}
use Prim.Native.Nat.{ℕ, ◌+◌}
use lib.ListN.{set}
use Rattle.sharing.proofs.Loops.{run_none, run-next}
use Rattle.plane.specs.Code.Products.{share_turn}
use Rattle.plane.proofs.word_products.Goals as goal

pub loop-i-init : goal.loop-i-init
loop-i-init g c = run_none _ _

pub loop-i-preserved : goal.loop-i-preserved
unfolding share_turn
loop-i-preserved g c = let l = c.loop-i in run-next _ _ _ _ _ l.invariant (ap (λ (v : ℕ). set l.p (c.args.q + l.i) v) c.times.ensures)
