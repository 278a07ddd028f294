-- `table::join` meets its contract. The loop's invariant: the turns so far have joined the shares of each place passed.
-- Assumes nothing.
use mathlib.Core.Path.{ap}
use Prim.Native.Nat.{ℕ}
use native.Mathlib.Omega.{arith}
use lib.ListN.{set}
use Rattle.sharing.proofs.Loops.{run_none, run-next}
use Rattle.table.proofs.Lent.{joined-all}
use Rattle.table.proofs.join.Goals as goal

pub loop-i-init : goal.loop-i-init
loop-i-init g c = run_none _ _

pub loop-i-preserved : goal.loop-i-preserved
loop-i-preserved g c = let l = c.loop-i in run-next _ _ _ _ _ l.invariant (ap (λ (x : ℕ). set l.s l.i x) c.apply.ensures)

pub returns : goal.returns
returns g c = joined-all _ _ _ c.args.s.now _ c.loop-i.invariant (omega arith)
