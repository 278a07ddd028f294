-- `row::product_block` meets its contract. The loop's invariant: c is a run of the bytes so far.
-- Assumes nothing.
use mathlib.Core.Path.{◌≡◌}
use Prim.Native.Nat.{◌+◌}
use Rattle.sharing.specs.Run.{run}
use Rattle.row.specs.Code.Products.{product_byte_turn}
use Rattle.row.proofs.product_block.Given as goal

abbrev pub invariant-loop-q : goal.invariant-loop-q
invariant-loop-q g l = l.c ≡ run (product_byte_turn l.bits g.row.N (g.row.BLOCK + 16) l.span l.b l.m l.at) l.q l.initial.c
