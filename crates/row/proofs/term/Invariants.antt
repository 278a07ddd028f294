-- `row::term` meets its contract. The loop's invariant: what is summed and what is left to add are the whole sum.
-- Assumes nothing.
use mathlib.Core.Path.{◌≡◌}
use Prim.Native.Nat.{◌-◌, ◌+◌, ◌*◌}
use lib.Bits.{bit_xor}
use Rattle.row.specs.Code.Products.{term}
use Rattle.row.proofs.term.Given as goal

abbrev pub invariant-loop-t : goal.invariant-loop-t
invariant-loop-t l =
    bit_xor l.v (term l.m l.r (l.bits - l.t) (l.t * l.r + l.g) l.h) ≡ term l.m l.r l.bits l.g l.y
