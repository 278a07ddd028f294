-- A row in words. A row of columns, n bytes each (its shares, or its draws), is held the last column first: what stands e columns before the
-- last one is in word e / 8 of each share, and the n words of eight columns stand side by side. In its word it is lane 7 - e % 8, so that
-- the lanes are in the order of the columns.
--
--     column      1 2 3 | 4 5 6 7 8 9 10 11          11 columns: two words, of which the second has three columns
--     e          10 9 8 | 7 6 5 4 3 2  1  0
--     word            1 |                 0
--     lane        5 6 7 | 0 1 2 3 4 5  6  7
--
-- So the columns from any one on are the first words of a row, and only the last of these words may have other columns too.
-- Assumes nothing.
use Rattle.std.specs.Prelude.{◌≡◌, ℕ, ◌+◌, ◌-◌, ◌*◌, ◌/◌, ◌%◌, ◌^◌, ◌<◌, ◌≤◌, List, ltb, get_or, drop}
use Rattle.field.specs.Field.{Ops, pick}
use Rattle.sharing.specs.Run.{tab, pairs}
use Rattle.sharing.specs.Rules.{product}
use Rattle.word.specs.Lanes.{lane, ones, multiple}

-- share s of what stands e columns before the last, in a row of n shares
unfoldable pub byte_of : ℕ → List ℕ → ℕ → ℕ → ℕ
byte_of n row e s = lane (get_or row (e / 8 * n + s) 0) (7 - e % 8)

-- the words that so many columns take, of each share
abbrev pub words_of : ℕ → ℕ
words_of columns = (columns + 7) / 8

-- the last `columns` columns of a row as bytes, in 01's order: column by column, its shares side by side
unfoldable pub bytes_of : ℕ → ℕ → List ℕ → List ℕ
bytes_of n columns row = tab (columns * n) (λ p. byte_of n row (columns - 1 - p / n) (p % n))

-- one entry has become v, and the others stayed
pub record PutEntry (n e : ℕ) (v row new : List ℕ) : Type 0 where
  pub at : (s : ℕ) → s < n → byte_of n new e s ≡ get_or v s 0
  pub beside : (d s : ℕ) → (d ≡ e → ⊥) → s < n → byte_of n new d s ≡ byte_of n row d s

-- the last `columns` columns have become these bytes, and those before them stayed
pub record PutBytes (n columns : ℕ) (bytes row new : List ℕ) : Type 0 where
  pub at : (e s : ℕ) → e < columns → s < n → byte_of n new e s ≡ get_or bytes ((columns - 1 - e) * n + s) 0
  pub beyond : (e s : ℕ) → columns ≤ e → s < n → byte_of n new e s ≡ byte_of n row e s

-- `columns` columns of n bytes each have been dealt into words, modulo q; lanes past them are 0
pub record Dealt (q n columns : ℕ) (bytes row : List ℕ) : Type 0 where
  pub at : (e s : ℕ) → e < 8 * words_of columns → s < n
      → byte_of n row e s ≡ pick (ltb e columns) (get_or bytes ((columns - 1 - e) * n + s) 0 % q) 0

-- other has, for each word of the last `columns` columns of a row, the word and its doubles side by side, `bits` of them; lanes past the
-- columns are 0
pub record Prepared (bits n columns : ℕ) (row other : List ℕ) : Type 0 where
  pub at : (e s t : ℕ) → e < 8 * words_of columns → s < n → t < bits
      → lane (get_or other ((e / 8 * n + s) * bits + t) 0) (7 - e % 8) ≡ pick (ltb e columns) (multiple bits t (byte_of n row e s)) 0

-- for bit t of share i of a factor of n shares, all ones or all zeros
pub record Masked (bits n : ℕ) (factor masks : List ℕ) : Type 0 where
  pub at : (i t : ℕ) → i < n → t < bits → get_or masks (i * bits + t) 0 ≡ get_or factor i 0 / 2 ^ t % 2 * ones

-- the last `columns` columns of a row have become themselves and Product(factor, the other row's), and those before them stayed
pub record Joined (F : Ops) (n columns : ℕ) (ds factor other row new : List ℕ) : Type 0 where
  pub at : (e s : ℕ) → e < columns → s < n
      → byte_of n new e s ≡ F.add (byte_of n row e s) (get_or (product F (drop ((columns - 1 - e) * pairs n) ds) factor (tab n (byte_of n other e))) s 0)
  pub beyond : (e s : ℕ) → columns ≤ e → s < n → byte_of n new e s ≡ byte_of n row e s
