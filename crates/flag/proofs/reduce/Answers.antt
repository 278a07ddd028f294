-- `flag::reduce` meets its contract: a turn of the loop is a turn of `each`.
-- Assumes nothing.
use Rattle.std.proofs.Common.{ℕ, ap, arith}
use lib.ListN.{set}
use Rattle.sharing.proofs.Loops.{run_none, run-next}
use Rattle.sharing.proofs.Each.{each_map}
use Rattle.flag.specs.Code.Passes.{reduced}
use Rattle.flag.proofs.reduce.Goals as goal

pub loop-i-init : goal.loop-i-init
loop-i-init g c = run_none _ _

pub loop-i-preserved : goal.loop-i-preserved
loop-i-preserved g c = let l = c.loop-i in run-next _ _ _ _ _ l.invariant (ap (λ (x : ℕ). set l.s l.i x) c.reduce.ensures)

pub returns : goal.returns
unfolding reduced
returns g c = each_map _ _ c.args.s.now _ c.loop-i.invariant (omega arith)
