use Prim.Native.Nat.{◌+◌, ◌*◌, ◌/◌, ◌%◌, ◌^◌}
use mathlib.Core.Path.{refl}
use native.Mathlib.Omega.{arith}
use native.Mathlib.Nat.{mod-lt}
use lib.Bits.{xor_lt}
use lib.Dec.{lit<}
use Rattle.dealing.proofs.Taking.{few_none, few_more}
use Rattle.dealing.proofs.few_at.Goals as goal

pub loop-q-init : goal.loop-q-init
loop-q-init c = let x = c.args in (lit< tt, few_none x.n x.d.now x.o)

pub loop-q-preserved : goal.loop-q-preserved
loop-q-preserved c =
    let x = c.args in
    let l = c.loop-q in
    let b = c.from in (
      xor_lt 64 (l.v / 256) (b.result * 2 ^ 56 % 2 ^ 64) (omega (arith, l.invariant.0)) (mod-lt (b.result * 2 ^ 56) (lit< tt)),
      few_more x.n x.d.now x.o l.q (x.o + l.q * x.n) l.v b.result (omega arith) l.invariant.0 (omega (arith, c.type_inv.d (x.o + l.q * x.n))) b.ensures refl
          l.invariant.1,
    )
