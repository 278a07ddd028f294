-- `sharing::scale` meets its contract: a turn of the loop is a turn of `each`.
-- Assumes nothing.
use Rattle.std.proofs.Common.{ℕ, ap, arith}
use lib.ListN.{set}
use Rattle.sharing.specs.Rules.{scaled}
use Rattle.sharing.proofs.Loops.{run_none, run-next}
use Rattle.sharing.proofs.Each.{each_map}
use Rattle.sharing.proofs.scale.Goals as goal

pub loop-x-init : goal.loop-x-init
loop-x-init c = run_none _ _

pub loop-x-preserved : goal.loop-x-preserved
loop-x-preserved c = let l = c.loop-x in run-next _ _ _ _ _ l.invariant (ap (λ (x : ℕ). set l.s l.x-index x) c.mul.ensures)

pub returns : goal.returns
unfolding scaled
returns c = each_map _ _ c.args.s.now _ c.loop-x.invariant (omega arith)
