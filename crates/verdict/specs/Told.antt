-- Refusals as 01 has them: a number with its detail; a check that passes or refuses; the first of several that applies.
-- Assumes nothing.
use Rattle.std.specs.Prelude.{Bool, true, false, List, ℕ}

-- a refusal: its number and its detail
pub record Line : Type 0 where
  pub number : ℕ
  pub detail : List ℕ

abbrev pub line : ℕ → List ℕ → Line
line k d = record { number = k; detail = d }

pub data Told : Type 0 where
  passed : Told
  refused : Line → Told

abbrev pub when : Bool → Told → Told
when true x = x
when false x = passed

-- refusal k applies where the test holds, with this detail
abbrev pub refuse : ℕ → Bool → List ℕ → Told
refuse k test detail = when test (refused (line k detail))

-- the first of the two that applies
infixl 20 ◌or◌
unfoldable pub ◌or◌ : Told → Told → Told
passed or y = y
refused l or y = refused l
