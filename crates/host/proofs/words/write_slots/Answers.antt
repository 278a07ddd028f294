-- `words::write_slots` meets its contract. The loop's invariant: each slot passed has its column.
-- Assumes nothing.
use native.Mathlib.Omega.{arith}
use mathlib.Core.Path.{◌≡◌, refl, ◌∙◌}
use lib.ListN.{length, length-set}
use Rattle.sharing.proofs.Loops.{run_none, run-next}
use Rattle.sharing.proofs.Each.{each-tab}
use Rattle.host.proofs.WideRecord.{tab-own}
use borrow.Author.Rules.{rules}
use Rattle.host.proofs.words.write_slots.Goals as goal

pub loop-i-init : goal.loop-i-init
loop-i-init c = (search rules, run_none _ _)

pub loop-i-preserved : goal.loop-i-preserved
loop-i-preserved c = let l = c.loop-i in (simp length-set l.invariant.0, run-next _ _ _ _ _ l.invariant.1 (rw c.from.ensures refl))

pub returns : goal.returns
returns c =
    let columns = c.args.columns.now in
    let e : c.loop-i.i ≡ length columns = omega arith in
    (rw e at (each-tab _ _ _ _ c.loop-i.invariant.1 (omega arith)))
    ∙ tab-own columns
