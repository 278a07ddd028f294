-- `table::lift_row` meets its contract: a copy of T[i+1,j] is multiplied by x, and taken from the last column's entry.
-- Assumes nothing.
use mathlib.Core.Path.{◌≡◌, ◌∙◌}
use Prim.Native.Nat.{◌+◌, ◌≤◌}
use native.Mathlib.Omega.{arith}
use lib.ListN.{length}
use lib.Seq.{length-take-le, take_at}
use Rattle.table.specs.Steps.{signed, lift_turn}
use Rattle.table.proofs.Parts.{part-lent, put-lent}
use Rattle.table.proofs.Cells.{in_row, cell_in}
use Rattle.table.proofs.lift_row.Goals as goal

pub overflow_add-o : goal.overflow_add-o
overflow_add-o c =
    let within-o : c.cell-o.result + c.args.shape.shares ≤ length c.args.table.now =
    omega (arith, cell_in c.args.shape.shares c.requires.inside) in
    omega (arith, within-o)

pub slice_bounds-copy_into-end-2 : goal.slice_bounds-copy_into-end-2
slice_bounds-copy_into-end-2 c =
    let within-o : c.cell-o.result + c.args.shape.shares ≤ length c.args.table.now =
    omega (arith, cell_in c.args.shape.shares c.requires.inside) in
    omega (arith, within-o)

pub overflow_add-p : goal.overflow_add-p
overflow_add-p c =
    let within-p : c.cell-p.result + c.args.shape.shares ≤ length c.args.table.now =
    omega (arith, cell_in c.args.shape.shares (in_row c.requires.inside c.args.shape.columns (omega arith) (omega arith))) in
    omega (arith, within-p)

pub slice_bounds-join-end : goal.slice_bounds-join-end
slice_bounds-join-end c =
    let within-p : c.cell-p.result + c.args.shape.shares ≤ length c.args.table.now =
    omega (arith, cell_in c.args.shape.shares (in_row c.requires.inside c.args.shape.columns (omega arith) (omega arith))) in
    omega (arith, within-p)

pub returns : goal.returns
unfolding lift_turn signed
returns c =
    let copied : length c.copy_into.new.dst ≡ c.args.shape.shares =
    c.copy_into.auto.dst ∙ length-take-le _ _ (omega arith) in
    let times-x : length c.scale_opened.new.s ≡ c.args.shape.shares =
    let e = copied in rw (take_at _ _ _ e) at c.scale_opened.auto.s ∙ e in
    let x = c.args in
    rw (put-lent x.shape.shares c.cell-p.result _ x.table.now, c.join.ensures, take_at _ _ _ times-x, c.scale_opened.ensures, take_at _ _ _ copied, c.copy_into.ensures, part-lent x.shape.shares c.cell-o.result x.table.now, part-lent x.shape.shares c.cell-p.result x.table.now, c.cell-o.ensures, c.cell-p.ensures)
