-- What the code asks before it works out a next place: before a Lift's column there is a pivot, and for a Check's there is a slot.
-- Assumes nothing.
use Rattle.std.specs.Prelude.{List, ℕ, ◌≤◌, ◌<◌}
use Rattle.sharing.specs.Bounds.{most_rows}
use Rattle.course.specs.declared.Step.{Step}
use Rattle.course.specs.declared.Step.TheVariants.{Mix, Check, Scale, Clear, Open, Lift}
use Rattle.pattern.specs.declared.Pivots.{Pivots}
use Rattle.pattern.specs.Pivots.{before}

abbrev pub Earlier : List ℕ → Step → Type 0
Earlier ps (Mix j k) = Unit
Earlier ps (Check j) = Unit
Earlier ps (Scale j) = Unit
Earlier ps (Clear j k) = Unit
Earlier ps (Open j) = Unit
Earlier ps (Lift j) = 1 ≤ before ps j

abbrev pub Roomy : Step → Pivots → Type 0
Roomy (Mix j k) v = Unit
Roomy (Check j) v = (v.found < most_rows) × (j ≤ 255)
Roomy (Scale j) v = Unit
Roomy (Clear j k) v = Unit
Roomy (Open j) v = Unit
Roomy (Lift j) v = Unit
