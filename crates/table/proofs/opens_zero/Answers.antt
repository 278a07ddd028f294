-- `table::opens_zero` meets its contract: what it lends is the entry, and a Scale's draws begin with its inversion's.
-- Assumes nothing.
use mathlib.Core.Path.{ap}
use Prim.Native.Nat.{ℕ, ◌+◌, ◌≤◌}
use native.Mathlib.Omega.{arith}
use lib.Dec.{eqb}
use lib.ListN.{length}
use Rattle.table.specs.Costs.{scale_nonzero}
use Rattle.table.specs.Layout.{columns_from}
use Rattle.table.proofs.Parts.{part-lent}
use Rattle.table.proofs.Cells.{cell_in, entry_length}
use Rattle.table.proofs.Draws.{scale_cost_is}
use Rattle.table.proofs.opens_zero.Goals as goal

pub overflow_add-p : goal.overflow_add-p
overflow_add-p c =
    let within : c.cell-p.result + c.args.shape.shares ≤ length c.args.table.now =
    omega (arith, c.cell-p.ensures, cell_in c.args.shape.shares c.requires.inside, c.requires.shaped.bytes) in
    omega (arith, within)

pub slice_bounds-blinded_value-end : goal.slice_bounds-blinded_value-end
slice_bounds-blinded_value-end c =
    let within : c.cell-p.result + c.args.shape.shares ≤ length c.args.table.now =
    omega (arith, c.cell-p.ensures, cell_in c.args.shape.shares c.requires.inside, c.requires.shaped.bytes) in
    omega (arith, within)

pub blinded_value-requires : goal.blinded_value-requires
unfolding scale_nonzero
blinded_value-requires c =
    rw (part-lent, c.cell-p.ensures, entry_length _ _ _ _ c.requires.shaped.bytes c.requires.inside)
    (omega (arith, scale_cost_is c.args.shape.shares (columns_from c.args.shape.columns c.args.j)))

pub returns : goal.returns
returns c = ap (λ (u : ℕ). eqb u 0) (rw (part-lent, c.cell-p.ensures) at c.blinded_value.ensures)
