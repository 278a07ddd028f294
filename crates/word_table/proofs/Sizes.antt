-- The sizes of a table in words are small, and its rows lie within it.
-- Assumes nothing.
use mathlib.Core.Path.{◌≡◌, ◌∙◌}
use Prim.Native.Nat.{ℕ, ◌+◌, ◌-◌, ◌*◌, ◌/◌, ◌<◌, ◌≤◌}
use native.Mathlib.Omega.{arith}
use native.Mathlib.Nat.{mul-le-mul, mul_assoc}
use Rattle.sharing.specs.Bounds.{most_columns}
use Rattle.table.specs.declared.Shape.{Shape}
use Rattle.table.specs.Layout.{table_bytes, Inside}
use Rattle.table.proofs.Cells.{column_in}
use Rattle.word.specs.Rows.{words_of}
use Rattle.word_table.specs.Table.{row_words}

pub words_small : {w : ℕ} → w ≤ most_columns → words_of w ≤ 19
words_small h = omega arith

pub row_small : {n w : ℕ} → n ≤ 4 → w ≤ most_columns → row_words n w ≤ 76
row_small {n} {w} a b = mul-le-mul {n₁ = words_of w} {m₁ = n} {n₂ = 19} {m₂ = 4} (words_small b) a

pub bytes_small : {n w : ℕ} → n ≤ 4 → w ≤ most_columns → w * n ≤ 580
bytes_small {n} {w} a b = mul-le-mul {n₁ = w} {m₁ = n} {n₂ = 145} {m₂ = 4} b a

pub table-rows : (n rows w : ℕ) → table_bytes n rows w ≡ rows * (w * n)
unfolding table_bytes
table-rows n rows w = mul_assoc rows w n

-- row i of a table in words, from 0, lies within the words
pub row_in : (s : Shape) {size have i : ℕ} → size ≡ row_words s.shares s.columns → s.rows * row_words s.shares s.columns ≤ have → i < s.rows → i * size + size ≤ have
row_in s {size} {have} {i} e f l = rw e (omega (arith, column_in (row_words s.shares s.columns) l))

-- and row r, from 1
pub row_within : (s : Shape) {size have r j : ℕ} → size ≡ row_words s.shares s.columns → s.rows * row_words s.shares s.columns ≤ have → Inside s.rows s.columns r j
    → (r - 1) * size + size ≤ have
row_within s e f P = row_in s e f (omega (arith, P.row_low, P.row_high))

-- what stands e columns before the last of w is in a word of the row
pub entry_within : (n w e : ℕ) → e < w → e / 8 * n + n ≤ row_words n w
entry_within n w e h = column_in n {u = e / 8} {columns = words_of w} (omega arith)

-- and so as bytes
pub bytes_in : (s : Shape) {have i : ℕ} → have ≡ table_bytes s.shares s.rows s.columns → i < s.rows → i * (s.columns * s.shares) + s.columns * s.shares ≤ have
bytes_in s {have} {i} e l = omega (arith, e ∙ table-rows s.shares s.rows s.columns, column_in (s.columns * s.shares) l)
