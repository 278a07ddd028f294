-- `field::shift_add` meets its contract. The loop's invariant: what is summed and what is left to add are the whole sum.
-- Assumes nothing.
use Rattle.std.proofs.Common.{◌≡◌, ◌<◌, ◌-◌, ◌^◌}
use lib.Bits.{bit_xor}
use Rattle.field.specs.Code.Shift.{shift_add}
use Rattle.field.proofs.shift_add.Given as goal

abbrev pub invariant-loop : goal.invariant-loop
invariant-loop g l = record {
  x_fits : l.x < 2 ^ g.row.W;
  sum : bit_xor l.p (shift_add g.row.W g.row.TAIL (g.row.W - l.counter) l.x l.y) ≡ shift_add g.row.W g.row.TAIL g.row.W l.a l.b;
}
