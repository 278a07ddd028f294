-- `row_from` meets its contract: what is copied is the row, and the array behind it does not count.
-- Assumes nothing.
use mathlib.Core.Path.{◌∙◌}
use native.Mathlib.Omega.{arith}
use Prim.Native.Nat.{◌+◌, ◌-◌}
use lib.ListN.{replicate}
use lib.Seq.{length-take-le, take_at}
use Rattle.plain.proofs.Places.{row_room, row-lent}
use Rattle.plain.proofs.Square.row_from.Goals as goal

pub overflow_add-p : goal.overflow_add-p
overflow_add-p c = omega (arith, row_room c.requires.1)

pub slice_bounds-copy_from_slice-end-2 : goal.slice_bounds-copy_from_slice-end-2
slice_bounds-copy_from_slice-end-2 c = omega (arith, row_room c.requires.1)

pub returns : goal.returns
returns c = let x = c.args in
    take_at _ _ _ (c.copy_from_slice.auto.self ∙ length-take-le (x.self.size + 2 - x.j) (replicate 97 0) (omega arith)) ∙ c.copy_from_slice.ensures.after
    ∙ row-lent x.self.size x.r x.j x.t.now c.cell-p.ensures
