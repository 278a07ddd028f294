-- `pattern::full_cost` meets its contract: the loop's invariant.
-- Assumes nothing.
use mathlib.Core.Path.{refl, ap, ◌∙◌}
use Prim.Native.Nat.{◌+◌}
use native.Mathlib.Omega.{arith}
use Rattle.pattern.specs.Code.Columns.{full_cost}
use Rattle.pattern.proofs.Counting.{full_turn, most_turn}
use Rattle.pattern.proofs.full_cost.Goals as goal

pub loop-j-init : goal.loop-j-init
loop-j-init c = (omega arith, omega arith, unfold full_cost in refl, omega arith)

pub loop-j-preserved : goal.loop-j-preserved
loop-j-preserved c =
    let l = c.loop-j in
    let i = l.invariant in
    (omega (arith, i.0), omega (arith, c.loop-j-test.true), ap (λ (k : _). k + c.cost-mask.result) i.2 ∙ full_turn c.args.o l.j _ i.0 c.cost-mask.ensures.0, most_turn l.j l.mask _ i.0 i.3 c.cost-mask.ensures.1)
