-- `table::open` meets its contract: the part of n places of the local array holds the entry, which is opened.
-- Assumes nothing.
use mathlib.Core.Path.{◌≡◌, ◌∙◌}
use Prim.Native.Nat.{◌+◌, ◌≤◌}
use native.Mathlib.Omega.{arith}
use lib.ListN.{length}
use lib.Seq.{length-take-le, take_at}
use Rattle.table.specs.Costs.{open_cost}
use Rattle.table.specs.Steps.{unknown_at}
use Rattle.table.proofs.Parts.{part-lent}
use Rattle.table.proofs.Cells.{cell_in}
use Rattle.table.proofs.open.Goals as goal

pub overflow_add-p : goal.overflow_add-p
overflow_add-p c =
    let within : c.cell-p.result + c.args.shape.shares ≤ length c.args.table.now =
    omega (arith, cell_in c.args.shape.shares c.requires.inside) in
    omega (arith, within)

pub slice_bounds-copy_into-end-2 : goal.slice_bounds-copy_into-end-2
slice_bounds-copy_into-end-2 c =
    let within : c.cell-p.result + c.args.shape.shares ≤ length c.args.table.now =
    omega (arith, cell_in c.args.shape.shares c.requires.inside) in
    omega (arith, within)

pub opening-requires : goal.opening-requires
unfolding open_cost
opening-requires c =
    let copied : length c.copy_into.new.dst ≡ c.args.shape.shares =
    c.copy_into.auto.dst ∙ length-take-le _ _ (omega arith) in
    let e = copied in rw (take_at _ _ _ e, e) (omega arith)

pub returns : goal.returns
unfolding unknown_at
returns c =
    let copied : length c.copy_into.new.dst ≡ c.args.shape.shares =
    c.copy_into.auto.dst ∙ length-take-le _ _ (omega arith) in
    rw (take_at _ _ _ copied, c.copy_into.ensures, part-lent, c.cell-p.ensures) at c.opening.ensures.0
