-- The steps before a place, told by the next place: before the first place there are none, and each step, when it is taken, is added at their end.
-- So the draws taken so far grow by the step's own, and at an end they are those of the whole pattern.
-- Assumes nothing.
use mathlib.Core.Bool.{true, false}
use mathlib.Core.List.{List, [], ◌∷◌, ◌++◌, append_assoc, append-nil}
use mathlib.Core.Path.{◌≡◌, refl, ap, ◌∙◌}
use Prim.Native.Nat.{ℕ, zero, suc, ◌<◌, ◌≤◌, ◌+◌, ◌-◌}
use native.Mathlib.Omega.{arith}
use native.Mathlib.Decide.{ℕ_discrete}
use lib.ListN.{length, get_or, drop_of_length-le}
use lib.Seq.{drop-cons}
use borrow.Author.Tests.{eq-eqb, ne_eqb}
use Rattle.course.specs.declared.Step.{Step}
use Rattle.course.specs.declared.Step.TheVariants.{Mix, Check, Scale, Clear, Open, Lift}
use Rattle.course.specs.StepList.{each}
use Rattle.course.proofs.Before.{each_snoc, by_less}
use Rattle.pattern.specs.declared.WideOrder.{WideOrder}
use Rattle.pattern.specs.declared.WidePlace.{WidePlace}
use Rattle.pattern.specs.declared.WidePlace.TheVariants.{At, Done}
use Rattle.pattern.specs.Pivots.{before, row_of, last, has, ascends}
use Rattle.pattern.specs.PatternList.{sought, taken, visit, visits, lifted, openings, before_step, steps_before}
use Rattle.pattern.specs.Next.{next_column, following}
use Rattle.pattern.proofs.Ascending.{before-all, before_last, before_at, before-with, has-with, has_not, has-says, last_high}
use Rattle.pattern.proofs.Standing.{by_most, by_same, Stood, found_after, last_in}

module _ (rows : ℕ) where
  -- the columns up to j are those before it, and its own
  pub visits-step : (ps : List ℕ) (j : ℕ) → 1 ≤ j → visits rows ps j ≡ visits rows ps (j - 1) ++ visit rows ps j
  unfolding visits
  visits-step ps zero a = absurd (let n : ⊥ = omega arith in n)
  visits-step ps (suc j) a = let e : suc j - 1 ≡ j = omega arith in rw e

  pub passed : (ps : List ℕ) (j : ℕ) → has ps j ≡ false → visit rows ps j ≡ sought rows (row_of ps j) j
  unfolding visit
  passed ps j h = rw (h, append-nil)

  pub pivoted : (ps : List ℕ) (j : ℕ) → has ps j ≡ true → visit rows ps j ≡ sought rows (row_of ps j) j ++ taken rows (row_of ps j) j
  unfolding visit
  pivoted ps j h = rw h

  -- one more pivot changes nothing before it
  pub visits-with : (ps : List ℕ) (j n : ℕ) → n < j → visits rows (ps ++ (j ∷ [])) n ≡ visits rows ps n
  unfolding visits visit row_of
  visits-with ps j zero l = refl
  visits-with ps j (suc n) l =
      rw (visits-with ps j n (omega arith), before-with ps j (suc n) (omega arith), has-with ps j (suc n) (omega arith) l)

  module _ (columns : ℕ) where
    -- the row of the last pivot, and of a column behind it
    pub last_row : (ps : List ℕ) → ascends 0 columns ps ≡ true → 1 ≤ last ps → row_of ps (last ps) ≡ length ps
    unfolding row_of
    last_row [] h l = absurd (let n : ⊥ = unfold last in omega arith in n)
    last_row (p ∷ ps) h l = rw (before_last columns 0 p ps h) (omega arith)

    pub next_row : (ps : List ℕ) → ascends 0 columns ps ≡ true → (j : ℕ) → last ps < j → row_of ps j ≡ length ps + 1
    unfolding row_of
    next_row ps h j l = rw (before-all columns 0 ps h j l)

    -- where the next column begins, column j is done; where every row has its pivot, that is the last pivot's
    pub next-before : (ps : List ℕ) → ascends 0 columns ps ≡ true → (j : ℕ) → last ps ≤ j → j ≤ columns → (rows ≤ length ps → (1 ≤ j) × (last ps ≡ j))
        → steps_before rows columns ps (next_column rows columns ps (j + 1)) ≡ visits rows ps j
    unfolding next_column steps_before before_step each
    next-before ps h j l c full =
        by_most P rows (length ps)
        (λ a.
        let e = (full a).1 in
        rw (last_row ps h (omega (arith, (full a).0)), drop_of_length-le ps {i = length ps} (omega arith), e)
        (unfold lifted in append-nil _))
        (λ a. by_less P columns (j + 1) (λ b. let e : j ≡ columns = omega arith in rw e)
        (λ b.
        let x : j + 1 - 1 ≡ j = omega arith in
        let r = next_row ps h (j + 1) (omega arith) in
        by_less P (length ps + 1) rows
        (λ d. let y : length ps + 2 - (length ps + 1) - 1 ≡ 0 = omega arith in rw (x, r, y, append-nil))
        (λ d. let y : rows - (length ps + 1) ≡ 0 = omega arith in rw (x, r, y, append-nil))))
      where
        P : WidePlace → Type 0
        P p = steps_before rows columns ps p ≡ visits rows ps j

last_some_pivot : (ps : List ℕ) → 1 ≤ last ps → 1 ≤ length ps
unfolding last
last_some_pivot [] l = absurd (let n : ⊥ = omega arith in n)
last_some_pivot (p ∷ ps) l = omega arith

-- the first pivot is opened, and with it all of them
opened-all : (rows columns : ℕ) (ps : List ℕ) (j : ℕ) → (1 ≤ j) × (before ps j < length ps) × (get_or ps (before ps j) 0 ≡ j) → before ps j ≡ 0
    → steps_before rows columns ps Done ≡ steps_before rows columns ps (At (Open j)) ++ (Open j ∷ [])
unfolding steps_before before_step openings row_of
opened-all rows columns [] j a e = absurd (let n : ⊥ = omega (arith, a.1) in n)
opened-all rows columns (p ∷ ps) j a e =
    let q : p ≡ j = rw e at a.2 in
    rw e (rw q (simp append_assoc))

-- and after a Lift the pivot before it is next
lifted-next : (rows columns : ℕ) (ps : List ℕ) → ascends 0 columns ps ≡ true → (j : ℕ)
    → (1 ≤ j) × (before ps j < length ps) × (get_or ps (before ps j) 0 ≡ j) → 1 ≤ before ps j
    → steps_before rows columns ps (At (Open (get_or ps (before ps j - 1) 0))) ≡ steps_before rows columns ps (At (Lift j)) ++ (Lift j ∷ [])
unfolding steps_before before_step lifted row_of
lifted-next rows columns ps h j a b =
    let i : before ps j - 1 < length ps = omega (arith, a.1) in
    let e : before ps j - 1 + 1 ≡ before ps j = omega arith in
    let y : suc (before ps j) ≡ before ps j + 1 = omega arith in
    rw (before_at columns 0 ps h (before ps j - 1) i, e, drop-cons ps (before ps j) 0 a.1, a.2, ← y) (simp append_assoc)

module _ (o : WideOrder) where
  abbrev rows : ℕ
  rows = o.rows

  abbrev columns : ℕ
  columns = o.columns

  pub none_first : 1 ≤ rows → steps_before rows columns [] (next_column rows columns [] 1) ≡ []
  none_first some =
      next-before rows columns [] (unfold ascends in refl) 0 (unfold last in omega arith) (omega arith) (λ a. absurd (let n : ⊥ = omega arith in n))
      ∙ (unfold visits in refl)

  module _ (ps : List ℕ) (h : ascends 0 columns ps ≡ true) where
    -- the column of the last pivot
    module _ {j : ℕ} (s : (1 ≤ j) × (last ps ≡ j)) where
      pub row_of_lem : row_of ps j ≡ length ps
      row_of_lem = rw (← s.1) (last_row rows columns ps h (omega (arith, s.0, s.1)))

      pub some_pivot : 1 ≤ length ps
      some_pivot = last_some_pivot ps (omega (arith, s.0, s.1))

      pub in_columns : j ≤ columns
      in_columns = omega (arith, last_high columns ps h, s.1)

      done : steps_before rows columns ps (next_column rows columns ps (j + 1))
          ≡ visits rows ps (j - 1) ++ (sought rows (row_of ps j) j ++ (Scale j ∷ each (Clear j) (row_of ps j + 1) (rows - row_of ps j)))
      unfolding taken
      done =
          next-before rows columns ps h j (omega (arith, s.1)) in_columns (λ a. s) ∙ visits-step rows ps j s.0
          ∙ ap (λ (l : List Step). visits rows ps (j - 1) ++ l) (pivoted rows ps j (rw (← s.1) (last_in columns ps h some_pivot)))

    abbrev Adds : Step → WidePlace → Type 0
    Adds s p = steps_before rows columns ps p ≡ steps_before rows columns ps (At s) ++ (s ∷ [])

    -- a step that is taken comes last of the steps before the next place
    pub added : (s : Step) (x : ℕ) → Stood o ps (At s)
        → steps_before rows columns (found_after s x ps) (following rows columns (found_after s x ps) s x) ≡ steps_before rows columns ps (At s) ++ (s ∷ [])
    unfolding found_after following steps_before before_step each
    added (Mix j k) x s =
        let r = next_row rows columns ps h j s.0 in
        by_less (Adds (Mix j k)) k rows
        (λ l. rw r (simp (append_assoc, each_snoc (Mix j) (k - (length ps + 1) - 1) (length ps + 1 + 1) (k + 1 - (length ps + 1) - 1) k (omega arith) (omega arith))))
        (λ l. rw r (simp (append_assoc, each_snoc (Mix j) (k - (length ps + 1) - 1) (length ps + 1 + 1) (rows - (length ps + 1)) k (omega arith) (omega arith))))
    added (Check j) x s = elim (ℕ_discrete x 1) [
      | yes e ↦
          rw (eq-eqb x 1 e)
          (next-before rows columns ps h j (omega arith) s.1 (λ a. absurd (let n : ⊥ = omega arith in n))
          ∙ visits-step rows ps j (omega arith) ∙ rw (passed rows ps j (has_not columns ps h j s.0)) (unfold sought in simp append_assoc))
      | no n ↦
          rw (ne_eqb x 1 n)
          (rw (visits-with rows ps j (j - 1) (omega arith)) (unfold sought row_of in rw (before-with ps j j (omega arith)) (simp append_assoc)))
    ]
    added (Scale j) x s =
        by_less (Adds (Scale j)) (length ps) rows
        (λ l. let y : length ps + 1 - length ps - 1 ≡ 0 = omega arith in rw (row_of_lem s, y) (simp append_assoc))
        (λ l. let y : rows - length ps ≡ 0 = omega arith in done s ∙ rw (row_of_lem s, y) (simp append_assoc))
    added (Clear j k) x s =
        by_less (Adds (Clear j k)) k rows
        (λ l.
        rw (row_of_lem (s.0, s.1))
        (simp (append_assoc, each_snoc (Clear j) (k - length ps - 1) (length ps + 1) (k + 1 - length ps - 1) k (omega arith) (omega arith))))
        (λ l.
        done (s.0, s.1)
        ∙ rw (row_of_lem (s.0, s.1))
        (simp (append_assoc, each_snoc (Clear j) (k - length ps - 1) (length ps + 1) (rows - length ps) k (omega arith) (omega arith))))
    added (Open j) x s =
        by_same (Adds (Open j)) (before ps j) 0 (λ e. opened-all rows columns ps j (has-says ps j s.1) e) (λ n. simp append_assoc)
    added (Lift j) x s = lifted-next rows columns ps h j (has-says ps j s.1) s.2
