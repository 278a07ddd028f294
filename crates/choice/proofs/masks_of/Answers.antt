use Prim.Native.Nat.{◌*◌}
use lib.ListN.{length}
use native.Mathlib.Omega.{arith}
use mathlib.Core.Path.{refl}
use Rattle.sharing.proofs.Loops.{taken_room}
use Rattle.choice.specs.Code.Writing.{IsMaskOf}
use Rattle.choice.proofs.Writing.{groups_next, wrote_part}
use Rattle.choice.proofs.masks_of.Goals as goal

pub loop-i-preserved : goal.loop-i-preserved
loop-i-preserved g c =
    let l = c.loop-i in
    let f = c.args.factor.now in
    let k = g.row.BITS in
    groups_next k 0 (IsMaskOf f) l.i _ l.masks _ (omega arith) l.invariant
    (wrote_part (IsMaskOf f l.i) (l.i * k) k l.masks _ (omega arith) (taken_room (l.i * k) l.i k (length f) refl (omega arith) (omega arith)) c.share_masks.ensures)
