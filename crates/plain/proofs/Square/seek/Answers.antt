-- `seek` meets its contract. The loop's invariant: what is left to look at from row r ends where the whole does.
-- Assumes nothing.
use mathlib.Core.Path.{◌≡◌, sym, ◌∙◌}
use Prim.Native.Nat.{◌+◌, ◌-◌}
use native.Mathlib.Omega.{arith}
use Rattle.plain.specs.Elimination.{seek}
use Rattle.plain.proofs.Places.{row_fits, at_byte}
use Rattle.plain.proofs.Pivot.{seek-end, seek-here, seek_on, found_is, none_is}
use Rattle.plain.proofs.Square.seek.Goals as goal

pub bounds-t-cell : goal.bounds-t-cell
bounds-t-cell c = let l = c.loop-r in omega (arith, row_fits {m = c.args.self.size} {r = l.r} {j = c.args.j} (omega arith) (omega arith) (omega arith) (omega arith))

pub returns-then-t-cell-ne0 : goal.returns-then-t-cell-ne0
returns-then-t-cell-ne0 c = let x = c.args in
    let l = c.loop-r in
    found_is x.self.size
    (sym l.invariant
    ∙ seek-here (x.self.size + 1) x.j x.t.now {left = x.self.size + 1 - (l.r + 1)} l.r (omega arith)
    (λ h. c.if-t-cell-ne0.true (at_byte x.self.size l.r x.j x.t.now c.cell.ensures ∙ h)))
    (omega arith)

pub loop-r-preserved : goal.loop-r-preserved
loop-r-preserved c = let x = c.args in
    let l = c.loop-r in
    sym (seek_on (x.self.size + 1) x.j x.t.now {left = x.self.size + 1 - (l.r + 1)} l.r (omega arith)
    (sym (at_byte x.self.size l.r x.j x.t.now c.cell.ensures) ∙ c.if-t-cell-ne0.false))
    ∙ l.invariant

pub returns-else-t-cell-ne0 : goal.returns-else-t-cell-ne0
returns-else-t-cell-ne0 c = let x = c.args in
    let l = c.loop-r in
    let ends : l.r + 1 ≡ seek (x.self.size + 1) x.j x.t.now (x.self.size + 1 - x.j) x.j =
    sym (seek_on (x.self.size + 1) x.j x.t.now {left = 0} l.r (omega arith) (sym (at_byte x.self.size l.r x.j x.t.now c.cell.ensures) ∙ c.if-t-cell-ne0.false)
    ∙ seek-end (x.self.size + 1) x.j x.t.now (l.r + 1))
    ∙ l.invariant in
    none_is x.self.size (omega (arith, ends))
