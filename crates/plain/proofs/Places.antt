-- Where a row of values stands: from column j on it has m + 2 - j bytes, which lie within the table; and an entry is one byte.
-- Assumes nothing.
use mathlib.Core.Path.{◌≡◌, ap, ◌∙◌}
use mathlib.Core.List.{List, ◌++◌}
use Prim.Native.Nat.{ℕ, ◌+◌, ◌-◌, ◌*◌, ◌≤◌}
use native.Mathlib.Omega.{arith}
use native.Mathlib.Nat.{mul-one}
use lib.ListN.{length, get_or, take, drop}
use Rattle.table.specs.Layout.{cell, table_bytes, columns_from, row_from, put_row, Inside}
use Rattle.table.proofs.Parts.{part-lent, put-lent}
use Rattle.table.proofs.Cells.{row_in, row_from-length}
use Rattle.plain.specs.Elimination.{at}

module _ {m r j : ℕ} (a : 1 ≤ r) (b : r ≤ m) (c : 1 ≤ j) (d : j ≤ m + 1) where
  pub inside : Inside m (m + 1) r j
  inside = record { row_low = a; row_high = b; column_low = c; column_high = d }

  pub row_fits : cell 1 (m + 1) r j + (m + 2 - j) ≤ table_bytes 1 m (m + 1)
  row_fits = omega (arith, row_in 1 inside, mul-one (columns_from (m + 1) j))

pub row_room : {m r j : ℕ} → Inside m m r j → cell 1 (m + 1) r j + (m + 2 - j) ≤ table_bytes 1 m (m + 1)
row_room i = row_fits i.row_low i.row_high i.column_low (omega (arith, i.column_high))

module _ (m r j : ℕ) {p : ℕ} (t : List ℕ) (e : p ≡ cell 1 (m + 1) r j) where
  width : m + 2 - j ≡ columns_from (m + 1) j * 1
  width = omega (arith, mul-one (columns_from (m + 1) j))

  -- what `&t[p..p + len]` is
  pub row-lent : take (p + (m + 2 - j) - p) (drop p t) ≡ row_from 1 (m + 1) r j t
  row-lent = part-lent (m + 2 - j) p t ∙ rw (e, width)

  -- what a `&mut t[p..p + len]` that came back as y leaves
  pub row-left : (y : List ℕ) → take p t ++ (y ++ drop (p + (m + 2 - j) - p) (drop p t)) ≡ put_row 1 (m + 1) r j y t
  row-left y = put-lent (m + 2 - j) p y t ∙ rw (e, width)

  -- the byte there
  pub at_byte : get_or t p 0 ≡ at (m + 1) t r j
  unfolding at cell
  at_byte = ap (λ (i : ℕ). get_or t i 0) (e ∙ mul-one ((r - 1) * (m + 1) + (j - 1)))

-- how long a row is
pub row-length : {m r j : ℕ} (t : List ℕ) → length t ≡ table_bytes 1 m (m + 1) → 1 ≤ r → r ≤ m → 1 ≤ j → j ≤ m + 1
    → length (row_from 1 (m + 1) r j t) ≡ m + 2 - j
row-length {m} {r} {j} t l a b c d =
    let e : columns_from (m + 1) j ≡ m + 2 - j = omega arith in
    row_from-length 1 m (m + 1) t l (inside a b c d) ∙ mul-one (columns_from (m + 1) j) ∙ e
