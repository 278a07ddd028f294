-- What the tests of refusal 10 say of a record's pivots and place, and that a record that they pass still passes them at its next place.
-- Assumes nothing.
use mathlib.Core.Bool.{Bool, true, false}
use mathlib.Core.List.{List, [], ◌∷◌, ◌++◌}
use mathlib.Core.Path.{◌≡◌, refl, ap}
use Prim.Native.Nat.{ℕ, ◌<◌, ◌≤◌, ◌+◌, ◌-◌}
use native.Mathlib.Omega.{arith}
use native.Mathlib.Decide.{ℕ_discrete}
use lib.Dec.{leb, eqb}
use lib.ListN.{length, get_or}
use lib.ListN.{length-append}
use borrow.Author.Tests.{ltb-true, leb-true, leb-false, eqb-true, eqb-false, lt-ltb, le-leb, eq-eqb, ne_eqb}
use Rattle.field.specs.Field.{pick}
use Rattle.course.specs.declared.Step.{Step}
use Rattle.course.specs.declared.Step.TheVariants.{Mix, Check, Scale, Clear, Open, Lift}
use Rattle.course.proofs.Within.{both}
use Rattle.course.proofs.Before.{by_less}
use Rattle.pattern.specs.declared.Pivots.{Pivots}
use Rattle.pattern.specs.declared.WideOrder.{WideOrder}
use Rattle.pattern.specs.declared.WidePlace.{WidePlace}
use Rattle.pattern.specs.declared.WidePlace.TheVariants.{At, Short, Done}
use Rattle.pattern.specs.Pivots.{before, last, has, ascends, zeros, listed, unused}
use Rattle.pattern.specs.Next.{next_column, following, kept, stands}
use Rattle.pattern.proofs.Ascending.{before_at, before_last, last-at, last-with, last_some, ascends-with, has-says, has_so, over_low}

-- ---- by a test

pub by_most : {A : Type 0} (P : A → Type 0) (k m : ℕ) {x y : A} → (k ≤ m → P x) → (m < k → P y) → P (pick (leb k m) x y)
by_most P k m {x} {y} a b = by (leb k m) refl
  where
    by : (t : Bool) → leb k m ≡ t → P (pick t x y)
    by true e = a (leb-true k m e)
    by false e = b (leb-false k m e)

pub by_same : {A : Type 0} (P : A → Type 0) (k m : ℕ) {x y : A} → (k ≡ m → P x) → ((k ≡ m → ⊥) → P y) → P (pick (eqb k m) x y)
by_same P k m {x} {y} a b = by (eqb k m) refl
  where
    by : (t : Bool) → eqb k m ≡ t → P (pick t x y)
    by true e = a (eqb-true k m e)
    by false e = b (eqb-false k m e)

-- ---- what the tests say

pub record Kept (o : WideOrder) (v : Pivots) : Type 0 where
  pub few : v.found ≤ o.rows
  pub rise : ascends 0 o.columns (listed v) ≡ true
  pub spare : zeros (unused v) ≡ true

pub kept-says : (o : WideOrder) (v : Pivots) → kept o v ≡ true → Kept o v
unfolding kept
kept-says o v h =
    let a = both _ _ h in
    let b = both _ _ a.0 in
    record { few = leb-true _ _ b.0; rise = b.1; spare = a.1 }

pub kept_so : (o : WideOrder) (v : Pivots) → Kept o v → kept o v ≡ true
unfolding kept
kept_so o v h = rw (le-leb _ _ h.few, h.rise, h.spare)

abbrev pub Stood : WideOrder → List ℕ → WidePlace → Type 0
Stood o ps (At (Mix j k)) = (last ps < j) × (j ≤ o.columns) × (length ps + 1 < k) × (k ≤ o.rows)
Stood o ps (At (Check j)) = (last ps < j) × (j ≤ o.columns) × (length ps < o.rows)
Stood o ps (At (Scale j)) = (1 ≤ j) × (last ps ≡ j)
Stood o ps (At (Clear j k)) = (1 ≤ j) × (last ps ≡ j) × (length ps < k) × (k ≤ o.rows)
Stood o ps (At (Open j)) = (length ps ≡ o.rows) × (has ps j ≡ true)
Stood o ps (At (Lift j)) = (length ps ≡ o.rows) × (has ps j ≡ true) × (1 ≤ before ps j)
Stood o ps Short = length ps < o.rows
Stood o ps Done = length ps ≡ o.rows

module _ (o : WideOrder) (ps : List ℕ) where
  pub stands-says : (p : WidePlace) → stands o ps p ≡ true → Stood o ps p
  unfolding stands
  stands-says (At (Mix j k)) h =
      let a = both _ _ h in
      let b = both _ _ a.0 in
      let c = both _ _ a.1 in
      (ltb-true _ _ b.0, leb-true _ _ b.1, ltb-true _ _ c.0, leb-true _ _ c.1)
  stands-says (At (Check j)) h =
      let a = both _ _ h in
      let b = both _ _ a.0 in
      (ltb-true _ _ b.0, leb-true _ _ b.1, ltb-true _ _ a.1)
  stands-says (At (Scale j)) h = let a = both _ _ h in (leb-true _ _ a.0, eqb-true _ _ a.1)
  stands-says (At (Clear j k)) h =
      let a = both _ _ h in
      let b = both _ _ a.0 in
      let c = both _ _ a.1 in
      (leb-true _ _ b.0, eqb-true _ _ b.1, ltb-true _ _ c.0, leb-true _ _ c.1)
  stands-says (At (Open j)) h = let a = both _ _ h in (eqb-true _ _ a.0, a.1)
  stands-says (At (Lift j)) h =
      let a = both _ _ h in
      let b = both _ _ a.1 in
      (eqb-true _ _ a.0, b.0, leb-true _ _ b.1)
  stands-says Short h = ltb-true _ _ h
  stands-says Done h = eqb-true _ _ h

  pub stands_so : (p : WidePlace) → Stood o ps p → stands o ps p ≡ true
  unfolding stands
  stands_so (At (Mix j k)) s = rw (lt-ltb _ _ s.0, le-leb _ _ s.1, lt-ltb _ _ s.2, le-leb _ _ s.3)
  stands_so (At (Check j)) s = rw (lt-ltb _ _ s.0, le-leb _ _ s.1, lt-ltb _ _ s.2)
  stands_so (At (Scale j)) s = rw (le-leb _ _ s.0, eq-eqb _ _ s.1)
  stands_so (At (Clear j k)) s = rw (le-leb _ _ s.0, eq-eqb _ _ s.1, lt-ltb _ _ s.2, le-leb _ _ s.3)
  stands_so (At (Open j)) s = rw (eq-eqb _ _ s.0, s.1)
  stands_so (At (Lift j)) s = rw (eq-eqb _ _ s.0, s.1, le-leb _ _ s.2)
  stands_so Short s = lt-ltb _ _ s
  stands_so Done s = eq-eqb _ _ s

-- ---- the next place

-- the pivots after a step, as a list
unfoldable pub found_after : Step → ℕ → List ℕ → List ℕ
found_after (Mix j k) x ps = ps
found_after (Check j) x ps = pick (eqb x 1) ps (ps ++ (j ∷ []))
found_after (Scale j) x ps = ps
found_after (Clear j k) x ps = ps
found_after (Open j) x ps = ps
found_after (Lift j) x ps = ps

-- a list with a pivot has its last one among them
pub last_in : (high : ℕ) (ps : List ℕ) → ascends 0 high ps ≡ true → 1 ≤ length ps → has ps (last ps) ≡ true
last_in high [] h l = absurd (omega arith)
last_in high (p ∷ ps) h l =
    let g = last_some high 0 p ps h in
    has_so (p ∷ ps) (last (p ∷ ps)) g.0 (rw (before_last high 0 p ps h) (last-at p ps))

module _ (o : WideOrder) (some : 1 ≤ o.rows) where
  -- column j is done, and where every row has its pivot it is the last
  pub next_stood : (ps : List ℕ) → ascends 0 o.columns ps ≡ true → length ps ≤ o.rows → (j : ℕ) → last ps ≤ j
      → Stood o ps (next_column o.rows o.columns ps (j + 1))
  unfolding next_column
  next_stood ps h few j l =
      by_most (Stood o ps) o.rows (length ps)
      (λ a. (omega arith, last_in o.columns ps h (omega arith)))
      (λ a. by_less (Stood o ps) o.columns (j + 1) (λ b. a)
      (λ b. by_less (Stood o ps) (length ps + 1) o.rows (λ c. (omega arith, b, omega arith, omega arith)) (λ c. (omega arith, b, a))))

  module _ (ps : List ℕ) (h : ascends 0 o.columns ps ≡ true) (few : length ps ≤ o.rows) where
    pub after_rises : (s : Step) (x : ℕ) → Stood o ps (At s)
        → (ascends 0 o.columns (found_after s x ps) ≡ true) × (length (found_after s x ps) ≤ o.rows)
    unfolding found_after
    after_rises (Mix j k) x s = (h, few)
    after_rises (Check j) x s =
        by_same (λ (qs : List ℕ). (ascends 0 o.columns qs ≡ true) × (length qs ≤ o.rows)) x 1 (λ e. (h, few))
        (λ e. (ascends-with 0 o.columns ps j h (omega arith) s.0 s.1, omega (arith, length-append ps (j ∷ []))))
    after_rises (Scale j) x s = (h, few)
    after_rises (Clear j k) x s = (h, few)
    after_rises (Open j) x s = (h, few)
    after_rises (Lift j) x s = (h, few)

    pub after_stood : (s : Step) (x : ℕ) → Stood o ps (At s)
        → Stood o (found_after s x ps) (following o.rows o.columns (found_after s x ps) s x)
    unfolding found_after following
    after_stood (Mix j k) x s =
        by_less (Stood o ps) k o.rows (λ l. (s.0, s.1, omega arith, omega arith)) (λ l. (s.0, s.1, omega arith))
    after_stood (Check j) x s =
        elim (ℕ_discrete x 1) [
          | yes e ↦ rw (eq-eqb x 1 e) (next_stood ps h few j (omega arith))
          | no n ↦ rw (ne_eqb x 1 n) (omega arith, last-with ps j)
        ]
    after_stood (Scale j) x s =
        by_less (Stood o ps) (length ps) o.rows (λ l. (s.0, s.1, omega arith, omega arith)) (λ l. next_stood ps h few j (omega arith))
    after_stood (Clear j k) x s =
        by_less (Stood o ps) k o.rows (λ l. (s.0, s.1, omega arith, omega arith)) (λ l. next_stood ps h few j (omega arith))
    after_stood (Open j) x s =
        by_same (Stood o ps) (before ps j) 0 (λ e. s.0) (λ n. (s.0, s.1, omega arith))
    after_stood (Lift j) x s =
        let i : ℕ = before ps j - 1 in
        let a = has-says ps j s.1 in
        let l : i < length ps = omega (arith, s.2) in
        (s.0, has_so ps (get_or ps i 0) (over_low o.columns 0 ps h i l) (ap (λ k. get_or ps k 0) (before_at o.columns 0 ps h i l)))
