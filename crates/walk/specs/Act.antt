-- What one step does, in field f, on a table of n shares an entry and rows of w columns, where row r takes column j's pivot; and in the square
-- system of an order. ds and nz are the parts of the two tapes that begin at the step's own first draw.
-- Assumes nothing.
use Rattle.std.specs.Prelude.{List, ℕ, ◌+◌, ◌-◌, ◌≤◌, get_or, set}
use Rattle.table.specs.Steps.{mix, check, scale, clear, unknown_at, lift}
use Rattle.course.specs.declared.Step.{Step}
use Rattle.course.specs.declared.Step.TheVariants.{Mix, Check, Scale, Clear, Open, Lift}
use Rattle.course.specs.declared.Order.{Order}
use Rattle.course.specs.StepList.{column_of, Revealed, None, Flag, Pivot, Unknown, revealed_by}

-- the lent table and solution
pub record Held : Type 0 where
  pub table : List ℕ
  pub solution : List ℕ

abbrev pub held : List ℕ → List ℕ → Held
held t x = record { table = t; solution = x }

-- the number that is opened, Check's flag or Open's x_j, from what a step opens; 0 where there is none, as what Scale opens stays in its
-- inversion
abbrev pub opened_by : ℕ → ℕ → ℕ → ℕ → Revealed → List ℕ → Held → ℕ
opened_by f n w r None ds h = 0
opened_by f n w r (Flag j) ds h = check f n w r j ds h.table
opened_by f n w r (Pivot j) ds h = 0
opened_by f n w r (Unknown j) ds h = unknown_at f n w r ds h.table

unfoldable pub step_opens : ℕ → ℕ → ℕ → ℕ → Step → List ℕ → Held → ℕ
step_opens f n w r s ds h = opened_by f n w r (revealed_by s) ds h

-- 01: "Only Open writes the solution, and only its place j"
abbrev pub written : Revealed → ℕ → List ℕ → List ℕ
written None x v = v
written (Flag j) x v = v
written (Pivot j) x v = v
written (Unknown j) x v = set v (j - 1) x

-- the table as a step leaves it. 02, R-7: "Open(j) now only opens and writes x_j", and Lift(j) "reads x_j from the lent solution" and "carries it
-- into the rows above"
abbrev pub worked : ℕ → ℕ → ℕ → ℕ → Step → List ℕ → List ℕ → Held → List ℕ
worked f n w r (Mix j k) ds nz h = mix f n w r j k ds h.table
worked f n w r (Check j) ds nz h = h.table
worked f n w r (Scale j) ds nz h = scale f n w r j nz ds h.table
worked f n w r (Clear j k) ds nz h = clear f n w r j k ds h.table
worked f n w r (Open j) ds nz h = h.table
worked f n w r (Lift j) ds nz h = lift f n w r j (get_or h.solution (j - 1) 0) h.table

-- what a step leaves
unfoldable pub step_leaves : ℕ → ℕ → ℕ → ℕ → Step → List ℕ → List ℕ → Held → Held
step_leaves f n w r s ds nz h = held (worked f n w r s ds nz h) (written (revealed_by s) (step_opens f n w r s ds h) h.solution)

-- what a step asks of the rows of its table: row r is one of them, and so is row k where it has a k
abbrev pub Row : ℕ → ℕ → Type 0
Row rows r = (1 ≤ r) × (r ≤ rows)

abbrev pub OtherRow : ℕ → Step → Type 0
OtherRow rows (Mix j k) = Row rows k
OtherRow rows (Check j) = Unit
OtherRow rows (Scale j) = Unit
OtherRow rows (Clear j k) = Row rows k
OtherRow rows (Open j) = Unit
OtherRow rows (Lift j) = Unit

-- in the square system of an order a table has m rows of m+1 columns, and row j takes column j's pivot
unfoldable pub opened : Order → Step → List ℕ → Held → ℕ
opened o s ds h = step_opens o.field o.shares (o.size + 1) (column_of s) s ds h

unfoldable pub acted : Order → Step → List ℕ → List ℕ → Held → Held
acted o s ds nz h = step_leaves o.field o.shares (o.size + 1) (column_of s) s ds nz h
