-- `flag::low_bits` meets its contract: a turn of the loop is a turn of `each`.
-- Assumes nothing.
use Rattle.std.proofs.Common.{refl, arith}
use Rattle.sharing.proofs.Loops.{run_none, run-next}
use Rattle.sharing.proofs.Each.{each_map}
use Rattle.flag.specs.Flag.{low_bits}
use Rattle.flag.proofs.low_bits.Goals as goal

pub loop-x-init : goal.loop-x-init
loop-x-init c = run_none _ _

pub loop-x-preserved : goal.loop-x-preserved
loop-x-preserved c = run-next _ _ _ _ _ c.loop-x.invariant refl

pub returns : goal.returns
unfolding low_bits
returns c = each_map _ _ c.args.s.now _ c.loop-x.invariant (omega arith)
