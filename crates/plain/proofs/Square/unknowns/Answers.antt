-- `unknowns` meets its contract. The loop's invariant: what is left to find from unknown j down comes to what the whole does.
-- Assumes nothing.
use mathlib.Core.Path.{◌≡◌, sym, ◌∙◌}
use Prim.Native.Nat.{◌+◌, ◌-◌}
use native.Mathlib.Omega.{arith}
use Rattle.plain.proofs.Places.{row_fits, at_byte}
use Rattle.plain.proofs.Turns.{unknowns-end, unknowns_on}
use Rattle.plain.proofs.Square.unknowns.Goals as goal

pub bounds-t-cell : goal.bounds-t-cell
bounds-t-cell c = let l = c.loop-j in omega (arith, row_fits {m = c.args.self.size} {r = l.j} {j = c.args.self.size + 1} (omega arith) (omega arith) (omega arith) (omega arith))

pub loop-j-preserved : goal.loop-j-preserved
loop-j-preserved c = let x = c.args in
    let l = c.loop-j in
    rw (c.lift.ensures, c.shape.ensures)
    (sym (unknowns_on x.self.field x.self.size {left = l.j - 1} l.t l.solution (omega arith) (sym (at_byte x.self.size l.j (x.self.size + 1) l.t c.cell.ensures)))
    ∙ l.invariant)

pub returns : goal.returns
returns c = let x = c.args in
    let l = c.loop-j in
    let e : l.j ≡ 0 = omega arith in
    sym (unknowns-end x.self.field x.self.size l.t l.solution) ∙ rw e at l.invariant
