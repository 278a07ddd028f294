-- `clear` meets its contract: a copy of row j, times T[k,j], is taken from row k.
-- Assumes nothing.
use mathlib.Core.Path.{◌≡◌, sym, ap, ◌∙◌}
use native.Mathlib.Omega.{arith}
use mathlib.Core.List.{List}
use Prim.Native.Nat.{ℕ, ◌+◌, ◌-◌, ◌≤◌}
use Rattle.table.specs.Layout.{row_from, table_bytes}
use lib.ListN.{length, take, length-append}
use lib.Seq.{take_at}
use Rattle.table.specs.Steps.{signed}
use Rattle.table.proofs.Lent.{lent_length}
use Rattle.plain.specs.Elimination.{clear}
use Rattle.plain.proofs.Places.{row_room, row-lent, row-left, row-length, at_byte}
use Rattle.plain.proofs.Square.clear.Goals as goal

-- the copy of the row is as long as the row, in the array and once it is scaled
copied : {m j : ℕ} (t row : List ℕ) → take (m + 2 - j) row ≡ row_from 1 (m + 1) j j t → length t ≡ table_bytes 1 m (m + 1) → 1 ≤ j → j ≤ m
    → length (take (m + 2 - j) row) ≡ m + 2 - j
copied t row e l a b = ap length e ∙ row-length t l a b a (omega arith)

pub bounds-t-p : goal.bounds-t-p
bounds-t-p c = omega (arith, row_room c.requires.2)

pub slice_bounds-scale_opened-end : goal.slice_bounds-scale_opened-end
slice_bounds-scale_opened-end c = sym (copied _ _ c.row_from-row.ensures c.requires.0.1 c.requires.1.column_low c.requires.1.column_high)

pub overflow_add-p : goal.overflow_add-p
overflow_add-p c = omega (arith, row_room c.requires.2)

pub slice_bounds-join-end : goal.slice_bounds-join-end
slice_bounds-join-end c = omega (arith, row_room c.requires.2)

pub slice_bounds-row-end-2 : goal.slice_bounds-row-end-2
slice_bounds-row-end-2 c =
    let z = c.scale_opened.auto.s ∙ copied _ _ c.row_from-row.ensures c.requires.0.1 c.requires.1.column_low c.requires.1.column_high in
    simp length-append (omega (arith, z))

pub slice_bounds-join-end-2 : goal.slice_bounds-join-end-2
slice_bounds-join-end-2 c =
    let z = c.scale_opened.auto.s ∙ copied _ _ c.row_from-row.ensures c.requires.0.1 c.requires.1.column_low c.requires.1.column_high in
    rw (take_at _ _ _ z) (sym z)

pub join-requires : goal.join-requires
join-requires c =
    let x = c.args in
    let z = c.scale_opened.auto.s ∙ copied _ _ c.row_from-row.ensures c.requires.0.1 c.requires.1.column_low c.requires.1.column_high in
    rw (take_at _ _ _ z, lent_length (x.self.size + 2 - x.j) c.cell-p.result x.t.now (omega (arith, row_room c.requires.2))) z

pub returns : goal.returns
unfolding clear signed
returns c =
    let x = c.args in
    let e = c.cell-p.ensures in
    let z = c.scale_opened.auto.s ∙ copied _ _ c.row_from-row.ensures c.requires.0.1 c.requires.1.column_low c.requires.1.column_high in
    row-left x.self.size x.k x.j x.t.now e c.join.new.s
    ∙ rw (c.join.ensures, take_at _ _ _ z, c.scale_opened.ensures, c.row_from-row.ensures, row-lent x.self.size x.k x.j x.t.now e, at_byte x.self.size x.k x.j x.t.now e)
