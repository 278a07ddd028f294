-- `table::clear` meets its contract: T[k,j] is copied before its row changes, and the copy is the factor.
-- Assumes nothing.
use mathlib.Core.Path.{◌≡◌, ◌∙◌}
use Prim.Native.Nat.{◌+◌, ◌≤◌}
use native.Mathlib.Omega.{arith}
use lib.ListN.{length}
use lib.Seq.{length-take-le, take_at}
use Rattle.table.specs.Steps.{clear}
use Rattle.table.specs.Costs.{clear_cost}
use Rattle.table.proofs.Parts.{part-lent}
use Rattle.table.proofs.Cells.{cell_in}
use borrow.Author.Rules.{rules}
use Rattle.table.proofs.clear.Goals as goal

pub overflow_add-p : goal.overflow_add-p
overflow_add-p c =
    let within : c.cell-p.result + c.args.shape.shares ≤ length c.args.table.now =
    omega (arith, cell_in c.args.shape.shares c.requires.inside.1) in
    omega (arith, within)

pub slice_bounds-copy_into-end-2 : goal.slice_bounds-copy_into-end-2
slice_bounds-copy_into-end-2 c =
    let within : c.cell-p.result + c.args.shape.shares ≤ length c.args.table.now =
    omega (arith, cell_in c.args.shape.shares c.requires.inside.1) in
    omega (arith, within)

pub join_rows-requires-clause-factor_len : goal.join_rows-requires-clause-factor_len
unfolding clear_cost
join_rows-requires-clause-factor_len c =
    let copied : length c.copy_into.new.dst ≡ c.args.shape.shares =
    c.copy_into.auto.dst ∙ length-take-le _ _ (omega arith) in
    let e = copied in rw (take_at _ _ _ e) (e, search rules)

pub returns : goal.returns
unfolding clear
returns c =
    let copied : length c.copy_into.new.dst ≡ c.args.shape.shares =
    c.copy_into.auto.dst ∙ length-take-le _ _ (omega arith) in
    let x = c.args in
    rw (take_at _ _ _ copied, c.copy_into.ensures, part-lent x.shape.shares c.cell-p.result x.table.now, c.cell-p.ensures) at c.join_rows.ensures
