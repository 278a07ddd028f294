-- `row::product_byte` meets its contract. The loop's invariant: c is a run of the rows so far.
-- Assumes nothing.
use mathlib.Core.Path.{◌≡◌}
use Rattle.sharing.specs.Run.{run}
use Rattle.row.specs.Code.Products.{byte_turn}
use Rattle.row.proofs.product_byte.Given as goal

abbrev pub invariant-loop-d : goal.invariant-loop-d
invariant-loop-d g l = l.c ≡ run (byte_turn l.bits g.row.N l.r l.span l.m l.y l.o l.q) l.d l.initial.c
