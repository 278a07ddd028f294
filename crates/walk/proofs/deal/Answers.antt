-- `walk::deal` meets its contract. The loop's invariant: the table is a run of the turns so far.
-- Assumes nothing.
use mathlib.Core.Path.{refl}
use native.Mathlib.Omega.{arith}
use Rattle.sharing.proofs.Loops.{run_none, run-next, run_done}
use Rattle.table.specs.Steps.{over_columns}
use Rattle.walk.specs.Dealing.{dealt}
use Rattle.walk.proofs.Dealt.{turn_dealt}
use borrow.Author.Rules.{rules}
use Rattle.walk.proofs.deal.Goals as goal

pub loop-i-init : goal.loop-i-init
loop-i-init c = run_none _ _

pub loop-i-preserved : goal.loop-i-preserved
loop-i-preserved c =
    let l = c.loop-i in
    let a = c.args in
    run-next _ _ _ _ _ l.invariant (turn_dealt a.f a.n l.i _ _ a.values.now a.mask.now l.table _ refl refl (search rules) c.deal_entry.ensures)

pub returns : goal.returns
unfolding dealt over_columns
returns c = run_done _ _ _ _ _ c.loop-i.invariant (omega arith)
