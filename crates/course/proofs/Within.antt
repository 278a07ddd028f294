-- What the closed test `in_list` says of a step's numbers: 1 ≤ j ≤ m, j < k ≤ m where there is a k, and 2 ≤ j for Lift.
-- Assumes nothing.
use mathlib.Core.Bool.{Bool, true, false, ◌&&◌, false≢true}
use mathlib.Core.Path.{◌≡◌, refl}
use Prim.Native.Nat.{ℕ, ◌<◌, ◌≤◌}
use native.Mathlib.Omega.{arith}
use lib.Dec.{ltb, leb}
use borrow.Author.Tests.{ltb-true, leb-true, lt-ltb, le-leb}
use Rattle.course.specs.declared.Step.{Step}
use Rattle.course.specs.declared.Step.TheVariants.{Mix, Check, Scale, Clear, Open, Lift}
use Rattle.course.specs.StepList.{in_list, column_of}

abbrev pub Within : ℕ → Step → Type 0
Within m (Mix j k) = (1 ≤ j) × (j < k) × (k ≤ m)
Within m (Check j) = (1 ≤ j) × (j ≤ m)
Within m (Scale j) = (1 ≤ j) × (j ≤ m)
Within m (Clear j k) = (1 ≤ j) × (j < k) × (k ≤ m)
Within m (Open j) = (1 ≤ j) × (j ≤ m)
Within m (Lift j) = (2 ≤ j) × (j ≤ m)

pub both : (a b : Bool) → a && b ≡ true → (a ≡ true) × (b ≡ true)
both true b h = (refl, h)
both false b h = absurd (false≢true h)

column-says : (a m j : ℕ) → leb a j && leb j m ≡ true → (a ≤ j) × (j ≤ m)
column-says a m j h =
    let e = both (leb a j) (leb j m) h in
    (leb-true a j e.0, leb-true j m e.1)

rows_say : (m j k : ℕ) → leb 1 j && (ltb j k && leb k m) ≡ true → (1 ≤ j) × (j < k) × (k ≤ m)
rows_say m j k h =
    let e = both (leb 1 j) (ltb j k && leb k m) h in
    let f = both (ltb j k) (leb k m) e.1 in
    (leb-true 1 j e.0, ltb-true j k f.0, leb-true k m f.1)

pub within : (m : ℕ) (s : Step) → in_list m s ≡ true → Within m s
unfolding in_list
within m (Mix j k) h = rows_say m j k h
within m (Check j) h = column-says 1 m j h
within m (Scale j) h = column-says 1 m j h
within m (Clear j k) h = rows_say m j k h
within m (Open j) h = column-says 1 m j h
within m (Lift j) h = column-says 2 m j h

column_so : (a m j : ℕ) → (a ≤ j) × (j ≤ m) → leb a j && leb j m ≡ true
column_so a m j w = rw (le-leb a j w.0) (le-leb j m w.1)

rows_so : (m j k : ℕ) → (1 ≤ j) × (j < k) × (k ≤ m) → leb 1 j && (ltb j k && leb k m) ≡ true
rows_so m j k w = rw (le-leb 1 j w.0, lt-ltb j k w.1) (le-leb k m w.2)

pub in_list_lem : (m : ℕ) (s : Step) → Within m s → in_list m s ≡ true
unfolding in_list
in_list_lem m (Mix j k) w = rows_so m j k w
in_list_lem m (Check j) w = column_so 1 m j w
in_list_lem m (Scale j) w = column_so 1 m j w
in_list_lem m (Clear j k) w = rows_so m j k w
in_list_lem m (Open j) w = column_so 1 m j w
in_list_lem m (Lift j) w = column_so 2 m j w

pub column_in : (m : ℕ) (s : Step) → Within m s → (1 ≤ column_of s) × (column_of s ≤ m)
column_in m (Mix j k) w = (w.0, omega arith)
column_in m (Check j) w = w
column_in m (Scale j) w = w
column_in m (Clear j k) w = (w.0, omega arith)
column_in m (Open j) w = w
column_in m (Lift j) w = (omega arith, w.1)

-- the column of a step of the list
pub column_listed : (m : ℕ) (s : Step) → in_list m s ≡ true → (1 ≤ column_of s) × (column_of s ≤ m)
column_listed m s h = column_in m s (within m s h)
