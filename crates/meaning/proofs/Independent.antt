-- Independence as an answer means it, that no column is a combination of those before it, is independence in the usual sense: only the
-- factors 0 make the columns add up to 0.
-- Assumes nothing.
use Prim.Native.Nat.{ℕ, ◌≤◌}
use mathlib.Core.List.{List}
use Rattle.field.specs.Field.{field_of}
use Rattle.field.proofs.Fields.{field_of_lem}
use Rattle.algebra.proofs.Independent.{apart_usual, usual_apart}
use Rattle.course.specs.declared.Order.{Order}
use Rattle.meaning.specs.Meaning.{value_of, Apart}
use Rattle.meaning.specs.Claims.{Independent}
use Rattle.meaning.proofs.Link.{value-lt}

module _ (o : Order) (t : List ℕ) where
  abbrev m : ℕ
  m = o.size

  pub independent_usual : ((j : ℕ) → 1 ≤ j → j ≤ m → Apart o t j) → Independent o t
  independent_usual = apart_usual (field_of o.field) (field_of_lem o.field) m (value_of o t) (value-lt o t)

  -- and the other way
  pub usual_independent : Independent o t → (j : ℕ) → 1 ≤ j → j ≤ m → Apart o t j
  usual_independent = usual_apart (field_of o.field) (field_of_lem o.field) m (value_of o t)
