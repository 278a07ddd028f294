-- A record that 10 and 19 pass, at its place and at the next: the pivots that it keeps, the steps and draws before its place, and that these are
-- among the draws that the whole solve wants.
-- Assumes nothing.
use mathlib.Core.Bool.{Bool, true, false}
use mathlib.Core.List.{List, [], ◌∷◌, ◌++◌}
use mathlib.Core.Path.{◌≡◌, refl, ap, ◌∙◌}
use Prim.Native.Nat.{ℕ, zero, suc, ◌<◌, ◌≤◌, ◌+◌, ◌*◌}
use native.Mathlib.Omega.{arith}
use lib.Dec.{eqb}
use lib.ListN.{length, drop, set, length-append, length-set}
use lib.Seq.{take-suc-set, drop-set-lt}
use borrow.Author.Tests.{eqb-true, eq-eqb}
use Rattle.field.specs.Field.{pick}
use Rattle.sharing.specs.Bounds.{most_rows}
use Rattle.course.specs.declared.Step.{Step}
use Rattle.course.specs.declared.Step.TheVariants.{Mix, Check, Scale, Clear, Open, Lift}
use Rattle.course.specs.StepList.{sum_over}
use Rattle.course.proofs.Sums.{sum-append}
use Rattle.course.proofs.Within.{both}
use Rattle.pattern.specs.declared.Pivots.{Pivots}
use Rattle.pattern.specs.declared.WideOrder.{WideOrder}
use Rattle.pattern.specs.declared.WidePlace.TheVariants.{At}
use Rattle.pattern.specs.declared.WideProgress.{WideProgress}
use Rattle.pattern.specs.Pivots.{last, ascends, zeros, listed, unused, with}
use Rattle.pattern.specs.PatternList.{Sizes, mask_cost, nonzero_cost, steps_before, taken_at, wanted}
use Rattle.pattern.specs.Code.Asked.{Earlier, Roomy}
use Rattle.pattern.specs.Next.{found_by, start_of, moved_on, kept, stands, placed, counted}
use Rattle.pattern.proofs.Slots as S
use Rattle.pattern.proofs.Standing.{Kept, kept-says, kept_so, Stood, stands-says, stands_so, found_after, next_stood, after_rises, after_stood}
use Rattle.pattern.proofs.Before.{none_first, added}
use Rattle.pattern.proofs.Placed.{Places, places}
use Rattle.pattern.proofs.Enough.{enough, steps_few}

-- ---- the pivots of a record

-- a pivot that is found stands behind the others
pub listed-with : (v : Pivots) (j : ℕ) → v.found < length v.columns → listed (with v j) ≡ listed v ++ (j ∷ [])
unfolding with
listed-with v j l = let e : v.found + 1 ≡ suc v.found = omega arith in rw e (take-suc-set v.columns v.found j l)

module _ (o : WideOrder) (z : Sizes o) where
  abbrev M : ℕ
  M = o.rows

  abbrev C : ℕ
  C = o.columns

  -- so many are used as were found
  pub used : (v : Pivots) → Kept o v → length v.columns ≡ most_rows → length (listed v) ≡ v.found
  used v k e = S.used v (omega (arith, k.few, z.most)) e

  -- a slot is free for the pivot of a Check
  free : (v : Pivots) → Kept o v → length v.columns ≡ most_rows → length (listed v) < M → v.found < length v.columns
  free v k e l = omega (arith, used v k e, z.most)

  pub listed_found : (s : Step) (x : ℕ) (v : Pivots) → Kept o v → length v.columns ≡ most_rows → Stood o (listed v) (At s)
      → listed (found_by s x v) ≡ found_after s x (listed v)
  unfolding found_by found_after
  listed_found (Mix j k) x v p e s = refl
  listed_found (Check j) x v p e s = by (eqb x 1)
    where
      by : (t : Bool) → listed (pick t v (with v j)) ≡ pick t (listed v) (listed v ++ (j ∷ []))
      by true = refl
      by false = listed-with v j (free v p e s.2)
  listed_found (Scale j) x v p e s = refl
  listed_found (Clear j k) x v p e s = refl
  listed_found (Open j) x v p e s = refl
  listed_found (Lift j) x v p e s = refl

  found_slots : (s : Step) (x : ℕ) (v : Pivots) → length (found_by s x v).columns ≡ length v.columns
  unfolding found_by with
  found_slots (Mix j k) x v = refl
  found_slots (Check j) x v = by (eqb x 1)
    where
      by : (t : Bool) → length (pick t v (record { found = v.found + 1; columns = set v.columns v.found j })).columns ≡ length v.columns
      by true = refl
      by false = length-set v.columns v.found j
  found_slots (Scale j) x v = refl
  found_slots (Clear j k) x v = refl
  found_slots (Open j) x v = refl
  found_slots (Lift j) x v = refl

  -- the slots that are not used stay 0
  spare_less : (n : ℕ) (l : List ℕ) → zeros (drop n l) ≡ true → zeros (drop (suc n) l) ≡ true
  unfolding zeros
  spare_less n [] h = refl
  spare_less zero (x ∷ l) h = (both (eqb x 0) (zeros l) h).1
  spare_less (suc n) (x ∷ l) h = spare_less n l h

  found_spare : (s : Step) (x : ℕ) (v : Pivots) → zeros (unused v) ≡ true → zeros (unused (found_by s x v)) ≡ true
  unfolding found_by with
  found_spare (Mix j k) x v h = h
  found_spare (Check j) x v h = by (eqb x 1)
    where
      by : (t : Bool) → zeros (unused (pick t v (record { found = v.found + 1; columns = set v.columns v.found j }))) ≡ true
      by true = h
      by false =
          let e : v.found + 1 ≡ suc v.found = omega arith in
          rw (e, drop-set-lt (suc v.found) v.columns v.found j (omega arith)) (spare_less v.found v.columns h)
  found_spare (Scale j) x v h = h
  found_spare (Clear j k) x v h = h
  found_spare (Open j) x v h = h
  found_spare (Lift j) x v h = h

  found_few : (s : Step) (x : ℕ) (v : Pivots) → Kept o v → length v.columns ≡ most_rows → Stood o (listed v) (At s) → (found_by s x v).found ≤ M
  unfolding found_by with
  found_few (Mix j k) x v p e s = p.few
  found_few (Check j) x v p e s = by (eqb x 1)
    where
      by : (t : Bool) → (pick t v (record { found = v.found + 1; columns = set v.columns v.found j })).found ≤ M
      by true = p.few
      by false = omega (arith, s.2, used v p e)
  found_few (Scale j) x v p e s = p.few
  found_few (Clear j k) x v p e s = p.few
  found_few (Open j) x v p e s = p.few
  found_few (Lift j) x v p e s = p.few

  -- 10 passes the next place too
  pub kept-after : (s : Step) (x : ℕ) (v : Pivots) → Kept o v → length v.columns ≡ most_rows → Stood o (listed v) (At s) → Kept o (found_by s x v)
  kept-after s x v k e st =
      record {
        few = found_few s x v k e st;
        rise =
            rw (listed_found s x v k e st)
            (after_rises o z.some (listed v) k.rise (omega (arith, used v k e, k.few)) s x st).0;
        spare = found_spare s x v k.spare;
      }

-- what 10 says of a record that it passes
pub placed-says : (p : WideProgress) → placed p ≡ true → Kept p.order p.pivots × Stood p.order (listed p.pivots) p.place
unfolding placed
placed-says p h =
    let a = both (kept p.order p.pivots) (stands p.order (listed p.pivots) p.place) h in
    (kept-says p.order p.pivots a.0, stands-says p.order (listed p.pivots) p.place a.1)

-- what the code asks of a step that 10 passes
pub roomy : (o : WideOrder) (z : Sizes o) (s : Step) (v : Pivots) → Kept o v → length v.columns ≡ most_rows → Stood o (listed v) (At s) → Roomy s v
roomy o z (Mix j k) v p e s = tt
roomy o z (Check j) v p e s = (omega (arith, S.used v (omega (arith, p.few, z.most)) e, s.2, z.most), omega (arith, s.1, z.widest))
roomy o z (Scale j) v p e s = tt
roomy o z (Clear j k) v p e s = tt
roomy o z (Open j) v p e s = tt
roomy o z (Lift j) v p e s = tt

pub earlier : (o : WideOrder) (s : Step) (x : ℕ) (ps : List ℕ) → Stood o ps (At s) → Earlier (found_after s x ps) s
unfolding found_after
earlier o (Mix j k) x ps s = tt
earlier o (Check j) x ps s = tt
earlier o (Scale j) x ps s = tt
earlier o (Clear j k) x ps s = tt
earlier o (Open j) x ps s = tt
earlier o (Lift j) x ps s = s.2

-- ---- at every place

-- a record that 10 and 19 pass
pub record Standing (o : WideOrder) (p : WideProgress) : Type 0 where
  pub order : p.order ≡ o
  pub kept : Kept o p.pivots
  pub slots : length p.pivots.columns ≡ most_rows
  pub stood : Stood o (listed p.pivots) p.place
  pub mask : p.mask ≡ (taken_at o (listed p.pivots) p.place).mask
  pub nonzero : p.nonzero ≡ (taken_at o (listed p.pivots) p.place).nonzero

-- the steps before its place
abbrev pub steps_of : WideOrder → WideProgress → List Step
steps_of o p = steps_before o.rows o.columns (listed p.pivots) p.place

one : (f : Step → ℕ) (s : Step) → sum_over f (s ∷ []) ≡ f s
unfolding sum_over
one f s = omega arith

module _ (o : WideOrder) (z : Sizes o) where
  pub standing_start : Standing o (start_of o) × (steps_of o (start_of o) ≡ [])
  unfolding start_of taken_at sum_over
  standing_start =
      let first = none_first o z.some in (
        record {
          order = refl;
          kept = record { few = omega arith; rise = unfold ascends in refl; spare = unfold zeros in refl };
          slots = refl;
          stood = next_stood o z.some [] (unfold ascends in refl) (omega arith) 0 (unfold last in omega arith);
          mask = rw first;
          nonzero = rw first;
        },
        first,
      )

  pub few_pivots : {p : WideProgress} → Standing o p → length (listed p.pivots) ≤ o.rows
  few_pivots {p} g = omega (arith, used o z p.pivots g.kept g.slots, g.kept.few)

  module _ {p : WideProgress} (s : Step) (e : p.place ≡ At s) (g : Standing o p) where
    pub stood_at : Stood o (listed p.pivots) (At s)
    stood_at = rw e at g.stood

    -- a step is taken, whatever it opens
    pub steps_after : (x : ℕ) → steps_of o (moved_on p s x) ≡ steps_of o p ++ (s ∷ [])
    unfolding moved_on
    steps_after x =
        rw (g.order, listed_found o z s x p.pivots g.kept g.slots stood_at, e)
        (added o (listed p.pivots) g.kept.rise s x stood_at)

    pub standing-after : (x : ℕ) → Standing o (moved_on p s x)
    unfolding moved_on taken_at
    standing-after x =
        let v = p.pivots in
        let found = listed_found o z s x v g.kept g.slots stood_at in
        let more = added o (listed v) g.kept.rise s x stood_at in
        let l : List Step = steps_before o.rows o.columns (listed v) (At s) in
        record {
          order = g.order;
          kept = kept-after o z s x v g.kept g.slots stood_at;
          slots = found_slots o z s x v ∙ g.slots;
          stood = rw (g.order, found) (after_stood o z.some (listed v) g.kept.rise (few_pivots g) s x stood_at);
          mask = rw (g.order, found, more) (omega (arith, rw e at g.mask, sum-append (mask_cost o) l (s ∷ []), one (mask_cost o) s));
          nonzero = rw (g.order, found, more) (omega (arith, rw e at g.nonzero, sum-append (nonzero_cost o) l (s ∷ []), one (nonzero_cost o) s));
        }

    -- its draws are among those that the whole solve wants, and it among the most steps
    pub room_at : (length (steps_of o p) < (o.columns + 1) * (2 * o.rows)) × (p.mask + mask_cost o s ≤ (wanted o).mask)
        × (p.nonzero + nonzero_cost o s ≤ (wanted o).nonzero)
    unfolding moved_on
    room_at =
        let u = standing-after 0 in
        let q : WideProgress = moved_on p s 0 in
        let w = enough o z.some (listed q.pivots) u.kept.rise (few_pivots u) q.place u.stood in
        let n = steps_few o z.some (listed q.pivots) u.kept.rise q.place u.stood in
        let m = ap length (steps_after 0) in
        let a = ap (λ (r : WideOrder). p.mask + mask_cost r s) g.order in
        let b = ap (λ (r : WideOrder). p.nonzero + nonzero_cost r s) g.order in
        (omega (arith, m, length-append (steps_of o p) (s ∷ []), n), omega (arith, u.mask, w.0, a), omega (arith, u.nonzero, w.1, b))

    -- where it works
    pub places-at : Places o (listed p.pivots) s
    places-at = places o (listed p.pivots) g.kept.rise (few_pivots g) s stood_at

-- ---- and the tests say the same

pub standing-says : (p : WideProgress) → length p.pivots.columns ≡ most_rows → placed p ≡ true → counted p ≡ true → Standing p.order p
unfolding placed counted
standing-says p e h c =
    let a = both _ _ h in
    let b = both _ _ c in
    record {
      order = refl;
      kept = kept-says p.order p.pivots a.0;
      slots = e;
      stood = stands-says p.order (listed p.pivots) p.place a.1;
      mask = eqb-true _ _ b.0;
      nonzero = eqb-true _ _ b.1;
    }

pub standing_so : (o : WideOrder) (p : WideProgress) → Standing o p → (placed p ≡ true) × (counted p ≡ true)
unfolding placed counted
standing_so o p g =
    rw g.order
    (rw (kept_so o p.pivots g.kept) (stands_so o (listed p.pivots) p.place g.stood), rw (eq-eqb _ _ g.mask) (eq-eqb _ _ g.nonzero))
