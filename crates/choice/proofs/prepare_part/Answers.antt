use Prim.Native.Nat.{◌*◌}
use native.Mathlib.Omega.{arith}
use mathlib.Core.Path.{refl}
use Rattle.sharing.proofs.Loops.{taken_room}
use Rattle.choice.specs.Code.Writing.{IsMultipleOf}
use Rattle.choice.proofs.Writing.{groups_next, wrote_part}
use Rattle.choice.proofs.prepare_part.Goals as goal

pub loop-g-preserved : goal.loop-g-preserved
loop-g-preserved g c =
    let l = c.loop-g in
    let x = c.args in
    let k = g.row.BITS in
    groups_next k x.from (IsMultipleOf k x.live x.row.now) l.g _ l.other _ (omega arith) l.invariant
    (wrote_part (IsMultipleOf k x.live x.row.now l.g) (l.g * k) k l.other _ (omega arith) (taken_room (l.g * k) l.g k x.to refl (omega arith) (omega arith)) c.multiples.ensures)
