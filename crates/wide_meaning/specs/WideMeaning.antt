-- 02, R-8: what the answer of a wide solve means, and what the theorems about it are stated with. Rows and columns are numbered from 1; the last
-- column, columns+1, is b.
-- Assumes nothing.
use Rattle.std.specs.Prelude.{List, ◌≡◌, ℕ, ◌+◌, ◌<◌, ◌≤◌, length}
use Rattle.field.specs.Field.{field_of}
use Rattle.sharing.specs.Rules.{draw_at}
use Rattle.table.specs.Layout.{table_bytes}
use Rattle.table.specs.Values.{value}
use Rattle.course.specs.declared.Order.{Order}
use Rattle.algebra.specs.Wide.{WideAnswer, found, short, WideMeans}
use Rattle.pattern.specs.declared.WideOrder.{WideOrder}
use Rattle.pattern.specs.PatternList.{Sizes, wanted}
use Rattle.wide_walk.specs.declared.WideEnding.{WideEnding}
use Rattle.wide_walk.specs.declared.WideEnding.TheVariants.{Solved, Short}

-- the value of an entry is the sum of its n shares, in rows of columns+1 entries
abbrev pub value_of : WideOrder → List ℕ → ℕ → ℕ → ℕ
value_of o t r c = value (field_of o.field) o.shares (o.columns + 1) t r c

-- the answer without its counters
abbrev pub answer_of : WideEnding → WideAnswer
answer_of (Solved c) = found
answer_of (Short c) = short

-- what an answer, with the pivots that were found and the solution that the call leaves, says of the table that it was given
abbrev pub Means : WideOrder → List ℕ → WideEnding → List ℕ → List ℕ → Type 0
Means o t e ps x = WideMeans (field_of o.field) o.rows (value_of o t) o.columns (answer_of e) ps x

-- no draw that the whole solve may take from the nonzero tape is 0
abbrev pub NoZero : WideOrder → List ℕ → Type 0
NoZero o zs = (k : ℕ) → k < (wanted o).nonzero → draw_at (field_of o.field) zs k ≡ 0 → ⊥

-- what a solve that is not refused is lent
pub record Given (o : WideOrder) (zs t x : List ℕ) : Type 0 where
  pub sizes : Sizes o
  pub table : length t ≡ table_bytes o.shares o.rows (o.columns + 1)
  pub solution : length x ≡ o.columns
  pub nonzero : NoZero o zs

-- the shares add up to the same equations
pub record SameValues (o p : WideOrder) (t u : List ℕ) : Type 0 where
  pub field : o.field ≡ p.field
  pub rows : o.rows ≡ p.rows
  pub columns : o.columns ≡ p.columns
  pub values : (r c : ℕ) → 1 ≤ r → r ≤ o.rows → 1 ≤ c → c ≤ o.columns + 1 → value_of o t r c ≡ value_of p u r c

-- the square order of as many equations: a wide table of so many columns is laid out as its table is
abbrev pub square_of : WideOrder → Order
square_of o = record { field = o.field; shares = o.shares; size = o.rows }
