-- Where columns 1 to n are the pivots: the row of a column is its number, as in the square system, and the next place of the wide record is the
-- square's, of as many columns as rows.
-- Assumes nothing.
use mathlib.Core.Bool.{Bool, true, false}
use mathlib.Core.List.{List, [], ◌∷◌, ◌++◌}
use mathlib.Core.Path.{◌≡◌, refl, sym, ap, ◌∙◌}
use Prim.Native.Nat.{ℕ, zero, suc, ◌+◌, ◌-◌, ◌≤◌, ◌<◌}
use native.Mathlib.Decide.{dec_lt, ℕ_discrete}
use native.Mathlib.Nat.{le_refl}
use native.Mathlib.Omega.{arith}
use lib.Dec.{ltb}
use lib.ListN.{length, get_or, length-append, get_or-append}
use lib.Seq.{get_or-append-add}
use borrow.Author.Tests.{lt-ltb, le-ltb, le-leb, lt-leb, eq-eqb, ne_eqb, ltb-true, ltb-false}
use Rattle.field.specs.Field.{pick}
use Rattle.course.specs.declared.Step.{Step}
use Rattle.course.specs.declared.Step.TheVariants.{Mix, Check, Scale, Clear, Open, Lift}
use Rattle.course.specs.declared.Place.{Place}
use Rattle.course.specs.StepList.{column_of}
use Rattle.course.specs.Next as Square
use Rattle.course.proofs.Within.{Within}
use Rattle.pattern.specs.declared.WidePlace.{WidePlace}
use Rattle.pattern.specs.declared.WidePlace.TheVariants.{At}
use Rattle.pattern.specs.Pivots.{before, row_of, last}
use Rattle.pattern.specs.Next.{next_column, following}
use Rattle.pattern.proofs.Ascending.{before-less, before_more, before-append, last-with}
use Rattle.pattern.proofs.Standing.{found_after}
use Rattle.wide_trace.specs.WideSquare.{first_columns, wide_at, found_before, found_at}

-- ---- the columns

first-length : (n : ℕ) → length (first_columns n) ≡ n
unfolding first_columns
first-length zero = refl
first-length (suc n) = length-append (first_columns n) (suc n ∷ []) ∙ omega (arith, first-length n)

one_less : (p j : ℕ) → p < j → before (p ∷ []) j ≡ 1
one_less p j l = before-less p [] j l ∙ (unfold before in refl)

one_more : (p j : ℕ) → j ≤ p → before (p ∷ []) j ≡ 0
one_more p j l = before_more p [] j l ∙ (unfold before in refl)

before-beyond : (n j : ℕ) → n < j → before (first_columns n) j ≡ n
unfolding first_columns
before-beyond zero j l = unfold before in refl
before-beyond (suc n) j l =
    before-append (first_columns n) (suc n ∷ []) j ∙ omega (arith, before-beyond n j (omega arith), one_less (suc n) j l)

before_among : (n j : ℕ) → 1 ≤ j → j ≤ n → before (first_columns n) j ≡ j - 1
unfolding first_columns
before_among zero j a b = absurd (let n : ⊥ = omega arith in n)
before_among (suc n) j a b = elim (dec_lt n j) [
  | yes l ↦ before-append (first_columns n) (suc n ∷ []) j ∙ omega (arith, before-beyond n j l, one_more (suc n) j b)
  | no g ↦ before-append (first_columns n) (suc n ∷ []) j ∙ omega (arith, before_among n j a (omega arith), one_more (suc n) j b)
]

-- the row of a column is its number
own_row : (n j : ℕ) → 1 ≤ j → j ≤ n + 1 → row_of (first_columns n) j ≡ j
unfolding row_of
own_row n j a b = elim (dec_lt n j) [
  | yes l ↦ let e = before-beyond n j l in omega arith
  | no g ↦ let e = before_among n j a (omega arith) in omega arith
]

first-at : (n i : ℕ) → i < n → get_or (first_columns n) i 0 ≡ i + 1
unfolding first_columns
first-at zero i l = absurd (let n : ⊥ = omega arith in n)
first-at (suc n) i l = elim (dec_lt i n) [
  | yes h ↦ get_or-append (first_columns n) (suc n ∷ []) 0 i (omega (arith, first-length n)) ∙ first-at n i h
  | no g ↦
      let e : length (first_columns n) + 0 ≡ i = omega (arith, first-length n) in
      ap (λ (k : ℕ). get_or (first_columns n ++ (suc n ∷ [])) k 0) (sym e) ∙ get_or-append-add (first_columns n) (suc n ∷ []) 0 0 ∙ omega arith
]

last-first : (n : ℕ) → 1 ≤ n → last (first_columns n) ≡ n
unfolding first_columns
last-first zero a = absurd (let n : ⊥ = omega arith in n)
last-first (suc n) a = last-with (first_columns n) (suc n)

first_more : (j : ℕ) → 1 ≤ j → first_columns (j - 1) ++ (j ∷ []) ≡ first_columns j
unfolding first_columns
first_more zero a = absurd (let n : ⊥ = omega arith in n)
first_more (suc j) a = let e : suc j - 1 ≡ j = omega arith in rw e

-- ---- the rows of the steps

pub step_row : (m : ℕ) (s : Step) → Within m s → row_of (first_columns (found_before m s)) (column_of s) ≡ column_of s
step_row m (Mix j k) w = own_row (j - 1) j w.0 (omega arith)
step_row m (Check j) w = own_row (j - 1) j w.0 (omega arith)
step_row m (Scale j) w = own_row j j w.0 (omega arith)
step_row m (Clear j k) w = own_row j j w.0 (omega arith)
step_row m (Open j) w = own_row m j w.0 (omega (arith, w.1))
step_row m (Lift j) w = own_row m j (omega (arith, w.0)) (omega (arith, w.1))

-- ---- the next place

by_both : {A B : Type 0} (P : A → B → Type 0) (k m : ℕ) {x y : A} {u v : B} → (k < m → P x u) → (m ≤ k → P y v)
    → P (pick (ltb k m) x y) (pick (ltb k m) u v)
by_both P k m {x} {y} {u} {v} a b = by (ltb k m) refl
  where
    by : (t : Bool) → ltb k m ≡ t → P (pick t x y) (pick t u v)
    by true e = a (ltb-true k m e)
    by false e = b (ltb-false k m e)

module _ (m : ℕ) where
  abbrev Next : List ℕ → WidePlace → Place → Type 0
  Next ps p q = (p ≡ wide_at m q) × (ps ≡ first_columns (found_at m q))

  pub next-column : (j : ℕ) → j < m → Next (first_columns j) (next_column m m (first_columns j) (j + 1)) (Square.first_of m (j + 1))
  unfolding next_column Square.first_of
  next-column j l =
      let e : j + 1 - 1 ≡ j = omega arith in
      let k : j + 2 ≡ j + 1 + 1 = omega arith in
      rw (first-length j, lt-leb m j l, le-ltb m (j + 1) (omega arith))
      (by_both (Next (first_columns j)) (j + 1) m (λ a. (rw k, rw e)) (λ a. (refl, rw e)))

  after_last : 1 ≤ m → next_column m m (first_columns m) (m + 1) ≡ At (Open m)
  unfolding next_column
  after_last some = rw (first-length m, le-leb m m (le_refl m), last-first m some)

  pub next_alike : (s : Step) → Within m s → (x : ℕ)
      → Next (found_after s x (first_columns (found_before m s))) (following m m (found_after s x (first_columns (found_before m s))) s x) (Square.following m s x)
  unfolding found_after following Square.following row_of
  next_alike (Mix j k) w x = by_both (Next (first_columns (j - 1))) k m (λ l. (refl, refl)) (λ l. (refl, refl))
  next_alike (Check j) w x = elim (ℕ_discrete x 1) [
    | yes e ↦ rw (eq-eqb x 1 e) (refl, refl)
    | no n ↦ rw (ne_eqb x 1 n) (refl, first_more j w.0)
  ]
  next_alike (Scale j) w x =
      rw (first-length j)
      (by_both (Next (first_columns j)) j m (λ l. (refl, refl))
      (λ l. let e : j ≡ m = omega (arith, w.1) in rw e (after_last (omega (arith, w.0)), refl)))
  next_alike (Clear j k) w x =
      by_both (Next (first_columns j)) k m (λ l. (refl, refl)) (λ l. next-column j (omega (arith, w.1, w.2)))
  next_alike (Open j) w x =
      rw (before_among m j w.0 w.1)
      (elim (dec_lt 1 j) [
        | yes l ↦ rw (lt-ltb 1 j l, ne_eqb (j - 1) 0 (omega arith)) (refl, refl)
        | no g ↦ rw (le-ltb 1 j (omega arith), eq-eqb (j - 1) 0 (omega arith)) (refl, refl)
      ])
  next_alike (Lift j) w x =
      let a = w.0 in
      let e : j - 1 - 1 + 1 ≡ j - 1 = omega arith in
      rw (before_among m j (omega arith) w.1, first-at m (j - 1 - 1) (omega (arith, w.1)), e) (refl, refl)
