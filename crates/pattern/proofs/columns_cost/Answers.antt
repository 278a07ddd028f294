-- `pattern::columns_cost` meets its contract: the loop's invariant.
-- Assumes nothing.
use mathlib.Core.Path.{refl, sym, ap, ◌∙◌}
use Prim.Native.Nat.{◌+◌}
use native.Mathlib.Omega.{arith}
use borrow.Author.Rules.{rules}
use Rattle.pattern.specs.Pivots.{listed}
use Rattle.pattern.specs.Code.Columns.{columns_cost}
use Rattle.pattern.proofs.Ascending.{before_none_one, before_few}
use Rattle.pattern.proofs.Slots.{used}
use Rattle.pattern.proofs.Counting.{slot_has, columns_turn, slot_turn, most_turn}
use Rattle.pattern.proofs.columns_cost.Goals as goal

pub loop-j-init : goal.loop-j-init
loop-j-init c =
    (omega arith, omega arith, sym (before_none_one c.args.o.columns (listed c.args.v.now) c.requires.n_le_columns.2), unfold columns_cost in refl, omega arith)

pub overflow_add-i : goal.overflow_add-i
overflow_add-i c =
    let n = used c.args.v.now c.requires.n_le_columns.1 (search rules) in
    omega (arith, n, c.requires.n_le_columns.1, c.loop-j.invariant.2, before_few (listed c.args.v.now) c.loop-j.j)

pub loop-j-preserved : goal.loop-j-preserved
loop-j-preserved c =
    let l = c.loop-j in
    let i = l.invariant in
    let ps = listed c.args.v.now in
    let t = c.slot_is-taken.ensures ∙ slot_has ps l.i l.j i.0 i.2 in
    (omega (arith, i.0), omega (arith, c.loop-j-test.true), slot_turn c.args.o.columns ps c.requires.n_le_columns.2 l.j l.i _ _ i.0 i.2 t c.from-i.ensures, ap (λ (k : _). k + c.cost-mask.result) i.3 ∙ columns_turn c.args.o ps l.j l.i _ _ i.0 i.2 t c.cost-mask.ensures.0, most_turn l.j l.mask _ i.0 i.4 c.cost-mask.ensures.1)
