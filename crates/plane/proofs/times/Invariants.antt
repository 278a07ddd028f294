-- What is joined and what is left to join are the whole.
use mathlib.Core.Path.{◌≡◌}
use Prim.Native.Nat.{◌-◌, ◌+◌}
use lib.Bits.{bit_xor}
use Rattle.plane.specs.Code.Products.{dot}
use Rattle.plane.proofs.times.Given as goal

abbrev pub invariant-loop-t : goal.invariant-loop-t
invariant-loop-t g l =
    bit_xor l.v (dot (g.row.BITS - l.t) l.masks (l.a + l.t) l.other (l.b + l.t)) ≡ dot g.row.BITS l.masks l.a l.other l.b
