-- What a record that 10 passes has at its place, as the code that sums what is taken there asks for it.
-- Assumes nothing.
use mathlib.Core.Bool.{true}
use mathlib.Core.Path.{◌≡◌}
use Prim.Native.Nat.{ℕ, ◌<◌, ◌≤◌}
use native.Mathlib.Omega.{arith}
use lib.ListN.{length}
use Rattle.sharing.specs.Bounds.{most_rows}
use Rattle.course.specs.declared.Step.{Step}
use Rattle.course.specs.declared.Step.TheVariants.{Mix, Scale, Clear}
use Rattle.course.specs.StepList.{column_of}
use Rattle.pattern.specs.declared.WidePlace.TheVariants.{At}
use Rattle.pattern.specs.declared.WideProgress.{WideProgress}
use Rattle.pattern.specs.Pivots.{row_of, last, listed}
use Rattle.pattern.specs.PatternList.{Sizes}
use Rattle.pattern.specs.Code.Asked.{Earlier, Roomy}
use Rattle.pattern.specs.Next.{placed, found_by}
use Rattle.pattern.proofs.Ascending.{last_high}
use Rattle.pattern.proofs.Slots.{used}
use Rattle.pattern.proofs.Before.{some_pivot}
use Rattle.pattern.proofs.Placed.{Places, places, few_slots}
use Rattle.pattern.proofs.Moving.{placed-says, roomy, earlier, listed_found, kept-after}

pub few_found : (p : WideProgress) → Sizes p.order → placed p ≡ true → (p.pivots.found ≤ p.order.rows) × (p.pivots.found ≤ most_rows)
few_found p z h = let k = (placed-says p h).0 in (k.few, omega (arith, k.few, z.most))

pub last_in : (p : WideProgress) → placed p ≡ true → last (listed p.pivots) ≤ p.order.columns
last_in p h = last_high p.order.columns (listed p.pivots) (placed-says p h).0.rise

pub places_in : (p : WideProgress) (s : Step) → Sizes p.order → length p.pivots.columns ≡ most_rows → placed p ≡ true → p.place ≡ At s
    → Places p.order (listed p.pivots) s
places_in p s z l h e =
    let w = placed-says p h in
    places p.order (listed p.pivots) w.0.rise (few_slots p.order z p.pivots l w.0) s (rw e at w.1)

pub placed_in : (p : WideProgress) (s : Step) → Sizes p.order → length p.pivots.columns ≡ most_rows → placed p ≡ true → p.place ≡ At s
    → (row_of (listed p.pivots) (column_of s) ≤ p.order.rows) × (1 ≤ row_of (listed p.pivots) (column_of s))
    × (1 ≤ column_of s) × (column_of s ≤ p.order.columns)
placed_in p s z l h e = let w = places_in p s z l h e in (w.row_high, w.row_low, w.column_low, w.column_high)

pub below_mix : (p : WideProgress) (j k : ℕ) → Sizes p.order → length p.pivots.columns ≡ most_rows → placed p ≡ true → p.place ≡ At (Mix j k)
    → (row_of (listed p.pivots) j < k) × (k ≤ p.order.rows)
below_mix p j k z l h e = (places_in p (Mix j k) z l h e).other

pub below_clear : (p : WideProgress) (j k : ℕ) → Sizes p.order → length p.pivots.columns ≡ most_rows → placed p ≡ true → p.place ≡ At (Clear j k)
    → (row_of (listed p.pivots) j < k) × (k ≤ p.order.rows)
below_clear p j k z l h e = (places_in p (Clear j k) z l h e).other

pub some_found : (p : WideProgress) (j : ℕ) → Sizes p.order → length p.pivots.columns ≡ most_rows → placed p ≡ true → p.place ≡ At (Scale j)
    → (1 ≤ p.pivots.found) × (last (listed p.pivots) ≡ j)
some_found p j z l h e =
    let w = placed-says p h in
    let st = rw e at w.1 in
    let n = used p.pivots (few_found p z h).1 l in
    (omega (arith, n, some_pivot p.order (listed p.pivots) w.0.rise st), st.1)

-- and what its next place asks: a slot for its pivot, pivots that are kept, and a pivot before a Lift's column
pub next_in : (p : WideProgress) (s : Step) (x : ℕ) → Sizes p.order → length p.pivots.columns ≡ most_rows → placed p ≡ true → p.place ≡ At s
    → ((found_by s x p.pivots).found ≤ p.order.rows) × Roomy s p.pivots × Earlier (listed (found_by s x p.pivots)) s
next_in p s x z l h e =
    let w = placed-says p h in
    let st = rw e at w.1 in (
      (kept-after p.order z s x p.pivots w.0 l st).few,
      roomy p.order z s p.pivots w.0 l st,
      rw (listed_found p.order z s x p.pivots w.0 l st) (earlier p.order s x (listed p.pivots) st),
    )

-- all of this, for the check to find
pub ruleset tallied = (few_found, placed_in, below_mix, below_clear, last_in, used)
