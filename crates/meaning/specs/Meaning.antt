-- Demand 2: what the answer of a solve means. Rows and columns are numbered from 1; column m+1 is b.
-- Assumes nothing.
use Rattle.std.specs.Prelude.{List, ℕ, ◌+◌}
use Rattle.field.specs.Field.{field_of}
use Rattle.sharing.specs.Rules.{sum}
use Rattle.table.specs.Layout.{entry}
use Rattle.algebra.specs.Linear as L
use Rattle.course.specs.declared.Order.{Order}
use Rattle.walk.specs.declared.Ending.{Ending}
use Rattle.walk.specs.declared.Ending.TheVariants.{Solved, Stopped}

-- the value of an entry is the sum of its n shares
unfoldable pub value_of : Order → List ℕ → ℕ → ℕ → ℕ
value_of o t r c = sum (field_of o.field) (entry o.shares (o.size + 1) r c t)

-- the answer without its counters
abbrev pub answer_of : Ending → L.Answer
answer_of (Solved c) = L.solved
answer_of (Stopped j c) = L.stopped j

-- algebra's words, said of the equations that the shares add up to
module _ (o : Order) (t : List ℕ) where
  -- the columns before column j do not combine to it
  abbrev pub Apart : ℕ → Type 0
  Apart j = L.Apart (field_of o.field) o.size (value_of o t) j

  -- solved with x: the columns are independent, x solves the equations, and no other x does
  abbrev pub IsSolved : List ℕ → Type 0
  IsSolved x = L.Means (field_of o.field) o.size (value_of o t) L.solved x

  -- stopped at j: column j is the first that the columns before it combine to. No columns at all combine only to the zero column
  abbrev pub IsStopped : ℕ → Type 0
  IsStopped j = L.IsStopped (field_of o.field) o.size (value_of o t) j

  -- what an answer, with the solution that the call leaves, says of the table that it was given
  abbrev pub Means : Ending → List ℕ → Type 0
  Means e x = L.Means (field_of o.field) o.size (value_of o t) (answer_of e) x
