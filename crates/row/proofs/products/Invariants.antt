-- `row::products` meets its contract. The loop's invariant: c is a run of the blocks so far.
-- Assumes nothing.
use mathlib.Core.Path.{◌≡◌}
use Prim.Native.Nat.{◌+◌}
use Rattle.sharing.specs.Run.{run}
use Rattle.row.specs.Code.Products.{block_products}
use Rattle.row.proofs.products.Given as goal

abbrev pub invariant-loop-u : goal.invariant-loop-u
invariant-loop-u g l = l.c ≡ run (block_products l.bits g.row.N g.row.BLOCK (g.row.BLOCK + 16) l.span l.b l.m) l.u l.initial.c
