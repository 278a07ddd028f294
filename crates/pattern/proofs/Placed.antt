-- Where the step of a place that 10 passes works: its column is one of the columns, its row one of the rows, and its other row one below.
-- Assumes nothing.
use mathlib.Core.Bool.{true}
use mathlib.Core.List.{List}
use mathlib.Core.Path.{◌≡◌}
use Prim.Native.Nat.{ℕ, ◌<◌, ◌≤◌}
use native.Mathlib.Omega.{arith}
use lib.ListN.{length}
use Rattle.sharing.specs.Bounds.{most_rows}
use Rattle.course.specs.declared.Step.{Step}
use Rattle.course.specs.declared.Step.TheVariants.{Mix, Check, Scale, Clear, Open, Lift}
use Rattle.course.specs.StepList.{column_of}
use Rattle.pattern.specs.declared.Pivots.{Pivots}
use Rattle.pattern.specs.declared.WideOrder.{WideOrder}
use Rattle.pattern.specs.declared.WidePlace.TheVariants.{At}
use Rattle.pattern.specs.Pivots.{before, row_of, ascends, listed}
use Rattle.pattern.specs.PatternList.{Sizes}
use Rattle.pattern.specs.Next.{kept, stands}
use Rattle.pattern.proofs.Ascending.{has-says, not_over}
use Rattle.pattern.proofs.Slots.{used}
use Rattle.pattern.proofs.Standing.{Kept, kept-says, Stood, stands-says}
use Rattle.pattern.proofs.Before.{row_of_lem, in_columns, next_row}

-- the other row is below the step's own
abbrev pub Below : ℕ → ℕ → Step → Type 0
Below rows r (Mix j k) = (r < k) × (k ≤ rows)
Below rows r (Check j) = Unit
Below rows r (Scale j) = Unit
Below rows r (Clear j k) = (r < k) × (k ≤ rows)
Below rows r (Open j) = Unit
Below rows r (Lift j) = Unit

pub record Places (o : WideOrder) (ps : List ℕ) (s : Step) : Type 0 where
  pub row_low : 1 ≤ row_of ps (column_of s)
  pub row_high : row_of ps (column_of s) ≤ o.rows
  pub column_low : 1 ≤ column_of s
  pub column_high : column_of s ≤ o.columns
  pub other : Below o.rows (row_of ps (column_of s)) s

module _ (o : WideOrder) (ps : List ℕ) (h : ascends 0 o.columns ps ≡ true) (few : length ps ≤ o.rows) where
  row_low : (j : ℕ) → 1 ≤ row_of ps j
  unfolding row_of
  row_low j = omega arith

  row_in : (s : Step) → Stood o ps (At s) → row_of ps (column_of s) ≤ o.rows
  unfolding row_of
  row_in (Mix j k) s = let r = next_row o.rows o.columns ps h j s.0 in omega (arith, s.2, s.3)
  row_in (Check j) s = let r = next_row o.rows o.columns ps h j s.0 in omega (arith, s.2)
  row_in (Scale j) s = let r = row_of_lem o ps h s in omega arith
  row_in (Clear j k) s = let r = row_of_lem o ps h (s.0, s.1) in omega arith
  row_in (Open j) s = let a = has-says ps j s.1 in omega (arith, a.1)
  row_in (Lift j) s = let a = has-says ps j s.1 in omega (arith, a.1)

  column_in : (s : Step) → Stood o ps (At s) → (1 ≤ column_of s) × (column_of s ≤ o.columns)
  column_in (Mix j k) s = (omega (arith, s.0), s.1)
  column_in (Check j) s = (omega (arith, s.0), s.1)
  column_in (Scale j) s = (s.0, in_columns o ps h s)
  column_in (Clear j k) s = (s.0, in_columns o ps h (s.0, s.1))
  column_in (Open j) s = let a = has-says ps j s.1 in (a.0, rw a.2 at (not_over o.columns 0 ps h (before ps j) a.1))
  column_in (Lift j) s = let a = has-says ps j s.1 in (a.0, rw a.2 at (not_over o.columns 0 ps h (before ps j) a.1))

  other_in : (s : Step) → Stood o ps (At s) → Below o.rows (row_of ps (column_of s)) s
  other_in (Mix j k) s = let r = next_row o.rows o.columns ps h j s.0 in (omega (arith, s.2, r), s.3)
  other_in (Check j) s = tt
  other_in (Scale j) s = tt
  other_in (Clear j k) s = let r = row_of_lem o ps h (s.0, s.1) in (omega (arith, s.2, r), s.3)
  other_in (Open j) s = tt
  other_in (Lift j) s = tt

  pub places : (s : Step) → Stood o ps (At s) → Places o ps s
  places s st =
      let c = column_in s st in
      record {
        row_low = row_low (column_of s);
        row_high = row_in s st;
        column_low = c.0;
        column_high = c.1;
        other = other_in s st;
      }

-- the same of a record's pivots
pub few_slots : (o : WideOrder) → Sizes o → (v : Pivots) → length v.columns ≡ most_rows → Kept o v → length (listed v) ≤ o.rows
few_slots o z v e k = omega (arith, used v (omega (arith, k.few, z.most)) e, k.few)

pub placed_at : (o : WideOrder) → Sizes o → (v : Pivots) → length v.columns ≡ most_rows → kept o v ≡ true → (s : Step)
    → stands o (listed v) (At s) ≡ true → Places o (listed v) s
placed_at o z v e k s t =
    let g = kept-says o v k in places o (listed v) g.rise (few_slots o z v e g) s (stands-says o (listed v) (At s) t)
