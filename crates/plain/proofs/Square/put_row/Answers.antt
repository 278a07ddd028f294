-- `put_row` meets its contract: the part that it lends is the row.
-- Assumes nothing.
use native.Mathlib.Omega.{arith}
use Rattle.plain.proofs.Places.{row_room, row-left}
use Rattle.plain.proofs.Square.put_row.Goals as goal

pub overflow_add-p : goal.overflow_add-p
overflow_add-p c = omega (arith, row_room c.requires.1)

pub slice_bounds-copy_from_slice-end : goal.slice_bounds-copy_from_slice-end
slice_bounds-copy_from_slice-end c = omega (arith, row_room c.requires.1)

pub returns : goal.returns
returns c = let x = c.args in
    rw (c.requires.2, c.copy_from_slice.ensures.after) (row-left x.self.size x.r x.j x.t.now c.cell-p.ensures _)
