-- `exchange` meets its contract: both rows are copied before either is put.
-- Assumes nothing.
use mathlib.Core.Path.{◌≡◌, sym, ap, ◌∙◌}
use Prim.Native.Nat.{ℕ, ◌+◌, ◌-◌}
use native.Mathlib.Omega.{arith}
use mathlib.Core.List.{List}
use lib.ListN.{length}
use Rattle.table.specs.Layout.{Inside, row_from, table_bytes}
use Rattle.plain.specs.Elimination.{exchange}
use Rattle.plain.proofs.Places.{row-length}
use Rattle.plain.proofs.Square.exchange.Goals as goal

-- a row that was copied is as long as a row
long : {m r j : ℕ} (t : List ℕ) {row : List ℕ} → row ≡ row_from 1 (m + 1) r j t → length t ≡ table_bytes 1 m (m + 1) → Inside m m r j → length row ≡ m + 2 - j
long t e l i = ap length e ∙ row-length t l i.row_low i.row_high i.column_low (omega (arith, i.column_high))

pub slice_bounds-put_row-end : goal.slice_bounds-put_row-end
slice_bounds-put_row-end c = sym (long _ c.row_from-row_b.ensures c.requires.0.1 c.requires.2)

pub put_row-requires : goal.put_row-requires
put_row-requires c = (c.requires.0, c.requires.1, long _ c.row_from-row_b.ensures c.requires.0.1 c.requires.2)

pub slice_bounds-put_row-end-2 : goal.slice_bounds-put_row-end-2
slice_bounds-put_row-end-2 c = sym (long _ c.row_from-row_a.ensures c.requires.0.1 c.requires.1)

pub put_row-requires-2 : goal.put_row-requires-2
put_row-requires-2 c = ((c.requires.0.0, omega arith), c.requires.2, long _ c.row_from-row_a.ensures c.requires.0.1 c.requires.1)

pub returns : goal.returns
unfolding exchange
returns c = rw (c.put_row-2.ensures, c.put_row.ensures, c.row_from-row_b.ensures, c.row_from-row_a.ensures)
