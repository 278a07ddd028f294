-- What the theorems about a solve are stated with, beside `Means`: what it is given, when two tables are of the same values, the table that
-- Deal gives, and independence in the usual sense.
-- Assumes nothing.
use Rattle.std.specs.Prelude.{List, ◌≡◌, ℕ, ◌+◌, ◌*◌, ◌%◌, ◌<◌, ◌≤◌, length}
use Rattle.field.specs.Field.{field_of}
use Rattle.sharing.specs.Rules.{draw_at}
use Rattle.table.specs.Layout.{table_bytes}
use Rattle.algebra.specs.Linear.{combination}
use Rattle.course.specs.declared.Order.{Order}
use Rattle.course.specs.StepList.{Sizes, full_nonzero}
use Rattle.walk.specs.Dealing.{dealt}
use Rattle.meaning.specs.Meaning.{value_of}

-- no draw that a full solve takes from the nonzero tape is 0
abbrev pub NoZero : Order → List ℕ → Type 0
NoZero o zs = (k : ℕ) → k < full_nonzero o → draw_at (field_of o.field) zs k ≡ 0 → ⊥

-- what a solve that is not refused is lent
pub record Given (o : Order) (zs t x : List ℕ) : Type 0 where
  pub sizes : Sizes o
  pub table : length t ≡ table_bytes o.shares o.size (o.size + 1)
  pub solution : length x ≡ o.size
  pub nonzero : NoZero o zs

-- the shares add up to the same equations
pub record SameValues (o p : Order) (t u : List ℕ) : Type 0 where
  pub field : o.field ≡ p.field
  pub size : o.size ≡ p.size
  pub values : (r c : ℕ) → 1 ≤ r → r ≤ o.size → 1 ≤ c → c ≤ o.size + 1 → value_of o t r c ≡ value_of p u r c

-- the dealt table of an order
abbrev pub dealt_for : Order → List ℕ → List ℕ → List ℕ → List ℕ
dealt_for o vs ds t = dealt o.field o.shares (o.size * (o.size + 1)) vs ds t

-- independence in the usual sense: no other factors than 0 make the m columns add up to 0 in every equation
abbrev pub Independent : Order → List ℕ → Type 0
Independent o t =
    (v : ℕ → ℕ) → ((r : ℕ) → 1 ≤ r → r ≤ o.size → combination (field_of o.field) (value_of o t r) v o.size ≡ 0) → (c : ℕ) → 1 ≤ c → c ≤ o.size
    → v c % (field_of o.field).q ≡ 0
