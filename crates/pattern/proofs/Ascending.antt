-- What a list of pivots, ascending, tells of a column: how many stand before it, and whether it is one of them.
-- Assumes nothing.
use mathlib.Core.Bool.{Bool, true, false, ◌&&◌}
use mathlib.Core.List.{List, [], ◌∷◌, ◌++◌}
use mathlib.Core.Path.{◌≡◌, refl, ap, ◌∙◌}
use Prim.Native.Nat.{ℕ, zero, suc, ◌<◌, ◌≤◌, ◌+◌}
use native.Mathlib.Omega.{arith}
use native.Mathlib.Decide.{ℕ_discrete, dec_lt}
use lib.Dec.{leb}
use lib.ListN.{length, get_or, get_or-append, get_or-eq_default}
use lib.Seq.{get_or-append_seam}
use borrow.Author.Tests.{ltb-true, leb-true, eqb-true, lt-ltb, le-ltb, le-leb, eq-eqb, ne_eqb}
use Rattle.field.specs.Field.{pick}
use Rattle.course.proofs.Within.{both}
use Rattle.pattern.specs.Pivots.{before, last, has, ascends}

-- what the test says of the first pivot, and of the others
pub record Rises (low high p : ℕ) (ps : List ℕ) : Type 0 where
  pub above : low < p
  pub high_enough : p ≤ high
  pub others : ascends p high ps ≡ true

pub rises : (low high p : ℕ) (ps : List ℕ) → ascends low high (p ∷ ps) ≡ true → Rises low high p ps
unfolding ascends
rises low high p ps h =
    let a = both _ _ h in
    let b = both _ _ a.0 in
    record { above = ltb-true _ _ b.0; high_enough = leb-true _ _ b.1; others = a.1 }

pub rises_so : (low high p : ℕ) (ps : List ℕ) → Rises low high p ps → ascends low high (p ∷ ps) ≡ true
unfolding ascends
rises_so low high p ps r = rw (lt-ltb low p r.above, le-leb p high r.high_enough) r.others

-- ---- how many stand before a column

pub before-less : (p : ℕ) (ps : List ℕ) (j : ℕ) → p < j → before (p ∷ ps) j ≡ suc (before ps j)
unfolding before
before-less p ps j l = rw (lt-ltb p j l) (omega arith)

pub before_more : (p : ℕ) (ps : List ℕ) (j : ℕ) → j ≤ p → before (p ∷ ps) j ≡ before ps j
unfolding before
before_more p ps j l = rw (le-ltb p j l) (omega arith)

pub before_few : (ps : List ℕ) (j : ℕ) → before ps j ≤ length ps
before_few [] j = unfold before in omega arith
before_few (p ∷ ps) j = elim (dec_lt p j) [
  | yes l ↦ omega (arith, before-less p ps j l, before_few ps j)
  | no l ↦ omega (arith, before_more p ps j (omega arith), before_few ps j)
]

pub before-append : (ps qs : List ℕ) (j : ℕ) → before (ps ++ qs) j ≡ before ps j + before qs j
unfolding before
before-append [] qs j = omega arith
before-append (p ∷ ps) qs j = omega (arith, before-append ps qs j)

-- the last stands in the last slot
pub last-at : (p : ℕ) (ps : List ℕ) → get_or (p ∷ ps) (length ps) 0 ≡ last (p ∷ ps)
unfolding last
last-at p [] = refl
last-at p (q ∷ ps) = last-at q ps

module _ (high : ℕ) where
  before_none : (low : ℕ) (ps : List ℕ) → ascends low high ps ≡ true → (j : ℕ) → j ≤ suc low → before ps j ≡ 0
  before_none low [] h j l = unfold before in refl
  before_none low (p ∷ ps) h j l =
      let r = rises low high p ps h in
      let g = r.above in
      before_more p ps j (omega arith) ∙ before_none p ps r.others j (omega arith)

  pub before_none_one : (ps : List ℕ) → ascends 0 high ps ≡ true → before ps 1 ≡ 0
  before_none_one ps h = before_none 0 ps h 1 (omega arith)

  pub over_low : (low : ℕ) (ps : List ℕ) → ascends low high ps ≡ true → (i : ℕ) → i < length ps → low < get_or ps i 0
  over_low low [] h i l = absurd (omega arith)
  over_low low (p ∷ ps) h zero l = (rises low high p ps h).above
  over_low low (p ∷ ps) h (suc i) l =
      let r = rises low high p ps h in
      omega (arith, r.above, over_low p ps r.others i (omega arith))

  pub not_over : (low : ℕ) (ps : List ℕ) → ascends low high ps ≡ true → (i : ℕ) → i < length ps → get_or ps i 0 ≤ high
  not_over low [] h i l = absurd (omega arith)
  not_over low (p ∷ ps) h zero l = (rises low high p ps h).high_enough
  not_over low (p ∷ ps) h (suc i) l = not_over p ps (rises low high p ps h).others i (omega arith)

  -- before the pivot of slot i, from 0, there are i
  pub before_at : (low : ℕ) (ps : List ℕ) → ascends low high ps ≡ true → (i : ℕ) → i < length ps → before ps (get_or ps i 0) ≡ i
  before_at low [] h i l = absurd (omega arith)
  before_at low (p ∷ ps) h zero l = before_more p ps p (omega arith) ∙ before_none p ps (rises low high p ps h).others p (omega arith)
  before_at low (p ∷ ps) h (suc i) l =
      let r = rises low high p ps h in
      before-less p ps (get_or ps i 0) (over_low p ps r.others i (omega arith)) ∙ ap suc (before_at p ps r.others i (omega arith))

  -- ---- the last

  pub last_some : (low p : ℕ) (ps : List ℕ) → ascends low high (p ∷ ps) ≡ true → (low < last (p ∷ ps)) × (last (p ∷ ps) ≤ high)
  unfolding last
  last_some low p [] h = let r = rises low high p [] h in (r.above, r.high_enough)
  last_some low p (q ∷ ps) h =
      let r = rises low high p (q ∷ ps) h in
      let g = last_some p q ps r.others in
      let a = r.above in
      (omega arith, g.1)

  pub last_high : (ps : List ℕ) → ascends 0 high ps ≡ true → last ps ≤ high
  last_high [] h = unfold last in omega arith
  last_high (p ∷ ps) h = (last_some 0 p ps h).1

  -- all stand before a column that is behind the last
  pub before-all : (low : ℕ) (ps : List ℕ) → ascends low high ps ≡ true → (j : ℕ) → last ps < j → before ps j ≡ length ps
  before-all low [] h j l = unfold before in refl
  before-all low (p ∷ []) h j l = unfold before last in rw (lt-ltb p j l)
  before-all low (p ∷ q ∷ ps) h j l =
      let r = rises low high p (q ∷ ps) h in
      let g = last_some p q ps r.others in
      let y : last (p ∷ q ∷ ps) ≡ last (q ∷ ps) = unfold last in refl in
      before-less p (q ∷ ps) j (omega arith) ∙ ap suc (before-all p (q ∷ ps) r.others j (omega arith))

  -- and all but it before the last itself
  pub before_last : (low p : ℕ) (ps : List ℕ) → ascends low high (p ∷ ps) ≡ true → before (p ∷ ps) (last (p ∷ ps)) ≡ length ps
  before_last low p [] h = unfold last in before_at low (p ∷ []) h 0 (omega arith)
  before_last low p (q ∷ ps) h =
      let r = rises low high p (q ∷ ps) h in
      let g = last_some p q ps r.others in
      let y : last (p ∷ q ∷ ps) ≡ last (q ∷ ps) = unfold last in refl in
      rw y (before-less p (q ∷ ps) (last (q ∷ ps)) g.0 ∙ ap suc (before_last p q ps r.others))

  -- ---- whether a column is a pivot

  -- one behind the last is none
  pub has_not : (ps : List ℕ) → ascends 0 high ps ≡ true → (j : ℕ) → last ps < j → has ps j ≡ false
  unfolding has
  has_not ps h j l =
      let e : get_or ps (before ps j) 0 ≡ 0 = get_or-eq_default ps 0 (omega (arith, before-all 0 ps h j l)) in
      rw (e, ne_eqb 0 j (omega arith)) (off (leb 1 j))
    where
      off : (b : Bool) → b && false ≡ false
      off true = refl
      off false = refl

  -- a column and the next one differ by it
  pub before-next : (low : ℕ) (ps : List ℕ) → ascends low high ps ≡ true → (j : ℕ) → 1 ≤ j → before ps (suc j) ≡ before ps j + pick (has ps j) 1 0
  unfolding has
  before-next low [] h j a = unfold before in rw (ne_eqb 0 j (omega arith), le-leb 1 j a)
  before-next low (p ∷ ps) h j a = elim (dec_lt p j) [
    | yes l ↦ rw (before-less p ps j l, before-less p ps (suc j) (omega arith)) (omega (arith, before-next p ps others j a))
    | no n ↦ elim (ℕ_discrete p j) [
      | yes e ↦
          rw (before_more p ps j (omega arith), before-less p ps (suc j) (omega arith), before_none p ps others j (omega arith), before_none p ps others (suc j) (omega arith), eq-eqb p j e, le-leb 1 j a)
      | no m ↦
          rw (before_more p ps j (omega arith), before_more p ps (suc j) (omega arith), before_none p ps others j (omega arith), before_none p ps others (suc j) (omega arith), ne_eqb p j m, le-leb 1 j a)
    ]
  ]
    where
      others : ascends p high ps ≡ true
      others = (rises low high p ps h).others

-- a pivot stands in its slot
pub has-says : (ps : List ℕ) (j : ℕ) → has ps j ≡ true → (1 ≤ j) × (before ps j < length ps) × (get_or ps (before ps j) 0 ≡ j)
unfolding has
has-says ps j h =
    let a = both _ _ h in
    let l = leb-true 1 j a.0 in
    let e = eqb-true (get_or ps (before ps j) 0) j a.1 in (
      l,
      elim (dec_lt (before ps j) (length ps)) [
        | yes g ↦ g
        | no n ↦ let d = get_or-eq_default ps 0 {n = before ps j} (omega arith) in absurd (omega arith)
      ],
      e,
    )

pub has_so : (ps : List ℕ) (j : ℕ) → 1 ≤ j → get_or ps (before ps j) 0 ≡ j → has ps j ≡ true
unfolding has
has_so ps j a e = rw (le-leb 1 j a) (eq-eqb _ _ e)

-- ---- one more pivot, behind the last

module _ (ps : List ℕ) (j : ℕ) where
  pub before-with : (c : ℕ) → c ≤ j → before (ps ++ (j ∷ [])) c ≡ before ps c
  before-with c l = before-append ps (j ∷ []) c ∙ rw (before_more j [] c l) (unfold before in omega arith)

  pub has-with : (c : ℕ) → 1 ≤ c → c < j → has (ps ++ (j ∷ [])) c ≡ has ps c
  unfolding has
  has-with c a l = rw (before-with c (omega arith)) (elim (dec_lt (before ps c) (length ps)) [
    | yes g ↦ rw (get_or-append ps (j ∷ []) 0 (before ps c) g)
    | no n ↦
        let e : before ps c ≡ length ps = omega (arith, before_few ps c) in
        rw (e, get_or-append_seam ps j [] 0, get_or-eq_default ps 0 {n = length ps} (omega arith), ne_eqb j c (omega arith), ne_eqb 0 c (omega arith))
  ])

pub last-with : (ps : List ℕ) (j : ℕ) → last (ps ++ (j ∷ [])) ≡ j
unfolding last
last-with [] j = refl
last-with (p ∷ []) j = refl
last-with (p ∷ q ∷ ps) j = last-with (q ∷ ps) j

-- a column behind the last of a list is behind its first, and behind the last of the others
behind : (low high p : ℕ) (ps : List ℕ) (j : ℕ) → ascends low high (p ∷ ps) ≡ true → last (p ∷ ps) < j → (p < j) × (last ps < j)
unfolding last
behind low high p [] j h l = (l, omega arith)
behind low high p (q ∷ ps) j h l =
    let g = last_some high p q ps (rises low high p (q ∷ ps) h).others in (omega arith, l)

pub ascends-with : (low high : ℕ) (ps : List ℕ) (j : ℕ) → ascends low high ps ≡ true → low < j → last ps < j → j ≤ high
    → ascends low high (ps ++ (j ∷ [])) ≡ true
ascends-with low high [] j h a l b = rises_so low high j [] (record { above = a; high_enough = b; others = unfold ascends in refl })
ascends-with low high (p ∷ ps) j h a l b =
    let r = rises low high p ps h in
    let c = behind low high p ps j h l in
    rises_so low high p (ps ++ (j ∷ []))
    (record { above = r.above; high_enough = r.high_enough; others = ascends-with p high ps j r.others c.0 c.1 b })
