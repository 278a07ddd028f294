-- `eliminate` meets its contract. The loop's invariant: what is left to do from column j comes to what the whole does.
-- Assumes nothing.
use mathlib.Core.Path.{◌≡◌, refl, sym, ◌∙◌}
use Prim.Native.Nat.{◌+◌, ◌-◌}
use native.Mathlib.Omega.{arith}
use Rattle.table.specs.Layout.{Inside}
use Rattle.plain.proofs.Pivot.{met, found_row, no_row}
use Rattle.plain.proofs.Turns.{eliminate-end, eliminate_stop, eliminate_on}
use Rattle.plain.proofs.Square.eliminate.Goals as goal

pub returns-in_default : goal.returns-in_default
returns-in_default c = let x = c.args in
    let l = c.loop-j in
    sym (eliminate_stop x.self.field x.self.size {left = x.self.size + 1 - (l.j + 1)} l.j l.t (omega arith) refl (no_row x.self.size c.in_default.ensures))
    ∙ l.invariant

pub column-requires : goal.column-requires
column-requires c =
    let m = c.args.self.size in
    let l = c.loop-j in
    let low = (met (m + 1) l.j l.t (m + 1 - l.j) l.j).low in
    let k = found_row m c.in-Some.ensures in
    let mine : Inside m m l.j l.j = record { row_low = omega arith; row_high = omega arith; column_low = omega arith; column_high = omega arith } in (
      (c.requires.0, omega arith),
      mine,
      record { row_low = omega (arith, low, k.0); row_high = k.1; column_low = omega arith; column_high = omega arith },
    )

pub loop-j-preserved : goal.loop-j-preserved
loop-j-preserved c = let x = c.args in
    let l = c.loop-j in
    let k = found_row x.self.size c.in-Some.ensures in
    rw c.column.ensures (sym (eliminate_on x.self.field x.self.size {left = x.self.size + 1 - (l.j + 1)} l.j l.t (omega arith) (sym k.0) k.1) ∙ l.invariant)

pub returns : goal.returns
returns c = let x = c.args in
    let l = c.loop-j in
    let e : x.self.size + 1 - l.j ≡ 0 = omega arith in
    sym (eliminate-end x.self.field x.self.size l.j l.t) ∙ rw e at l.invariant

pub returns-in-Some : goal.returns-in-Some
returns-in-Some c = let x = c.args in
    let l = c.loop-j in
    let k = found_row x.self.size c.in-Some.ensures in
    rw c.column.ensures
    (sym (eliminate_on x.self.field x.self.size {left = 0} l.j l.t (omega arith) (sym k.0) k.1 ∙ eliminate-end x.self.field x.self.size (l.j + 1) _) ∙ l.invariant)
