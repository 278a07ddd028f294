-- A table in words: its rows one after another, each as crate word has it. What it stands for is a table of bytes as 01 lays it out.
-- Assumes nothing.
use Rattle.std.specs.Prelude.{ℕ, zero, suc, ◌-◌, ◌*◌, ◌≤◌, List, [], ◌++◌, length, take, drop}
use Rattle.field.specs.Field.{bits}
use Rattle.sharing.specs.Run.{pairs}
use Rattle.sharing.specs.Lists.{Below}
use Rattle.table.specs.Layout.{part, Bounded}
use Rattle.table.specs.declared.Shape.{Shape}
use Rattle.word.specs.Rows.{words_of, bytes_of}

-- the words of a row of w columns
abbrev pub row_words : ℕ → ℕ → ℕ
row_words n w = words_of w * n

-- so many rows as bytes
unfoldable pub table_of : ℕ → ℕ → ℕ → List ℕ → List ℕ
table_of n w zero words = []
table_of n w (suc rows) words = bytes_of n w (take (row_words n w) words) ++ table_of n w rows (drop (row_words n w) words)

-- all rows of a table of a shape
abbrev pub table_in : Shape → List ℕ → List ℕ
table_in s words = table_of s.shares s.columns s.rows words

-- a table of a shape stands in words
pub record Worded (s : Shape) (words : List ℕ) : Type 0 where
  pub bounded : Bounded s.shares s.rows s.columns
  pub room : s.rows * row_words s.shares s.columns ≤ length words

-- row r, from 1
unfoldable pub row_at : ℕ → ℕ → ℕ → List ℕ → List ℕ
row_at n w r words = part (row_words n w) ((r - 1) * row_words n w) words

-- what the steps are lent to work in
pub record Room (s : Shape) (other draws products masks : List ℕ) : Type 0 where
  pub for_other : row_words s.shares s.columns * 8 ≤ length other
  pub for_draws : words_of s.columns * pairs s.shares ≤ length draws
  pub for_products : words_of s.columns * (s.shares * s.shares) ≤ length products
  pub for_masks : s.shares * 8 ≤ length masks

-- a factor that so many bits tell: any factor by all bits of an element, and one whose shares are 0 or 1 by one bit
pub data Told (f : ℕ) (factor : List ℕ) : ℕ → Type 0 where
  by_all : Told f factor (bits f)
  by_one : Below 2 factor → Told f factor 1
