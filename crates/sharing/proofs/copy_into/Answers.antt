-- `sharing::copy_into` meets its contract: a turn of the loop is a turn of `each`.
-- Assumes nothing.
use Rattle.std.proofs.Common.{◌≡◌, length, refl, arith}
use Rattle.sharing.proofs.Loops.{run_none, run-next}
use Rattle.sharing.proofs.Pairs.{tab_list}
use Rattle.sharing.proofs.Each.{each-tab}
use Rattle.sharing.proofs.copy_into.Goals as goal

pub loop-k-init : goal.loop-k-init
loop-k-init c = run_none _ _

pub loop-k-preserved : goal.loop-k-preserved
loop-k-preserved c = run-next _ _ _ _ _ c.loop-k.invariant refl

pub returns : goal.returns
returns c =
    let e : c.loop-k.k ≡ length c.args.src.now = omega arith in
    rw (e, tab_list) at (each-tab _ _ _ _ c.loop-k.invariant (omega arith))
