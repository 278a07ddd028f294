-- `scale` meets its contract: the part that it lends is the row from its pivot on.
-- Assumes nothing.
use mathlib.Core.Path.{◌∙◌}
use native.Mathlib.Omega.{arith}
use Rattle.plain.specs.Elimination.{scale}
use Rattle.plain.proofs.Places.{row_room, row-lent, row-left, at_byte}
use Rattle.plain.proofs.Square.scale.Goals as goal

pub bounds-t-p : goal.bounds-t-p
bounds-t-p c = omega (arith, row_room c.requires.1)

pub overflow_add-p : goal.overflow_add-p
overflow_add-p c = omega (arith, row_room c.requires.1)

pub slice_bounds-scale_opened-end : goal.slice_bounds-scale_opened-end
slice_bounds-scale_opened-end c = omega (arith, row_room c.requires.1)

pub returns : goal.returns
unfolding scale
returns c = let x = c.args in
    let e = c.cell-p.ensures in
    row-left x.self.size x.j x.j x.t.now e c.scale_opened.new.s
    ∙ rw (c.scale_opened.ensures, c.inverse-z.ensures, row-lent x.self.size x.j x.j x.t.now e, at_byte x.self.size x.j x.j x.t.now e)
