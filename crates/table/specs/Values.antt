-- The values that a table holds, by row and column. What a step does to them is said in algebra/specs/Steps.
-- Assumes nothing.
use Rattle.std.specs.Prelude.{ℕ, List}
use Rattle.field.specs.Field.{Ops}
use Rattle.sharing.specs.Rules.{sum}
use Rattle.table.specs.Layout.{entry}

-- 01: "The value of an entry is the sum of its n shares"
unfoldable pub value : Ops → ℕ → ℕ → List ℕ → ℕ → ℕ → ℕ
value F n w t r c = sum F (entry n w r c t)
