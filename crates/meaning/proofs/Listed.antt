-- Whoever performs the step list on values, step by step as algebra says it, ends with the answer that the values have.
-- Assumes nothing.
use mathlib.Core.Path.{◌≡◌, refl, subst}
use mathlib.Core.Logic.{◌≢◌}
use Prim.Native.Nat.{ℕ, zero, suc, ◌+◌, ◌-◌, ◌<◌, ◌≤◌}
use mathlib.Core.List.{List, [], ◌∷◌, ◌++◌}
use native.Mathlib.Omega.{arith}
use native.Mathlib.Nat.{le_refl}
use Rattle.field.specs.Field.{Ops, Field}
use Rattle.algebra.specs.Linear.{Table, IsSolved, IsStopped}
use Rattle.algebra.specs.Steps.{Mixes, Scales, Clears, Lifts}
use Rattle.algebra.proofs.Outcome.{Small}
use Rattle.algebra.proofs.Opened as A
use Rattle.algebra.proofs.Column as C
use Rattle.algebra.proofs.Square.{own, stopped-at, solved-with}
use Rattle.course.specs.declared.Step.{Step}
use Rattle.course.specs.declared.Step.TheVariants.{Mix, Check, Scale, Clear, Open, Lift}
use Rattle.course.specs.StepList.{each, column, columns, openings, step_list}

-- a table that is worked on, with the unknowns opened so far; or a column that a Check stopped at
pub data Run : Type 0 where
  going : Table → (ℕ → ℕ) → Run
  halted : ℕ → Run

module _ (F : Ops) (m : ℕ) where
  -- what a step may do to a run. It leaves elements; only Open writes an unknown, its own, and keeps those that were opened before it; and Lift
  -- takes the unknown that stands there
  pub data Acts : Step → Run → Run → Type 0 where
    mixed : {j k : ℕ} {T U : Table} {x y : ℕ → ℕ} → Small F U → Mixes m (m + 1) F j j k T U → Acts (Mix j k) (going T x) (going U y)
    passed : {j : ℕ} {T : Table} {x : ℕ → ℕ} → T j j ≢ 0 → Acts (Check j) (going T x) (going T x)
    halts : {j : ℕ} {T : Table} {x : ℕ → ℕ} → T j j ≡ 0 → Acts (Check j) (going T x) (halted j)
    scaled : {j : ℕ} {T U : Table} {x y : ℕ → ℕ} → Small F U → Scales m (m + 1) F j j T U → Acts (Scale j) (going T x) (going U y)
    cleared : {j k : ℕ} {T U : Table} {x y : ℕ → ℕ} → Small F U → Clears m (m + 1) F j j k T U → Acts (Clear j k) (going T x) (going U y)
    opened : {j : ℕ} {T : Table} {x y : ℕ → ℕ} → y j ≡ T j (m + 1) → ((i : ℕ) → j < i → i ≤ m → y i ≡ x i) → Acts (Open j) (going T x) (going T y)
    lifted : {j : ℕ} {T U : Table} {x : ℕ → ℕ} → Lifts m (m + 1) F j j (x j) T U → Acts (Lift j) (going T x) (going U x)
    over : {s : Step} {j : ℕ} → Acts s (halted j) (halted j)

  pub data Performs : List Step → Run → Run → Type 0 where
    none : {R : Run} → Performs [] R R
    more : {s : Step} {l : List Step} {R R' S : Run} → Acts s R R' → Performs l R' S → Performs (s ∷ l) R S

  split : (a : List Step) {b : List Step} {R S : Run} → Performs (a ++ b) R S → (Q : Run) × Performs a R Q × Performs b Q S
  split [] {R = R} r = (R, none, r)
  split (s ∷ a) (more e r) = let d = split a r in (d.0, more e d.1, d.2)

  module _ (L : Field F) (T : Table) (small : Small F T) where
    -- the run is as P says, or has stopped where it had to
    abbrev pub Stands : (Table → (ℕ → ℕ) → Type 0) → Run → Type 0
    Stands P (going U x) = P U x
    Stands P (halted j) = IsStopped F m T j

    then : {P Q : Table → (ℕ → ℕ) → Type 0} → ((U : Table) (x : ℕ → ℕ) → P U x → Q U x) → (R : Run) → Stands P R → Stands Q R
    then f (going U x) h = f U x h
    then f (halted j) h = h

    -- the pivots of columns 1 to i are taken; column i+1 is at work
    abbrev Shaped : ℕ → Table → (ℕ → ℕ) → Type 0
    Shaped i U x = C.Shape F L m (m + 1) T own i i U

    abbrev Sought : ℕ → ℕ → Table → (ℕ → ℕ) → Type 0
    Sought i s U x = C.Sought F L m (m + 1) T own i i s U

    abbrev Cleared : ℕ → ℕ → Table → (ℕ → ℕ) → Type 0
    Cleared i s U x = C.Cleared F L m (m + 1) T own i i s U

    mixes : (i n s a : ℕ) → a ≡ suc s → suc i ≤ s → s + n ≡ m → {R S : Run} → Performs (each (Mix (suc i)) a n) R S → Stands (Sought i s) R
        → Stands (Sought i m) S
    unfolding each
    mixes i zero s a e l g {R} none h = let d : s ≡ m = omega arith in subst (λ (k : ℕ). Stands (Sought i k) R) d h
    mixes i (suc n) s a e l g (more (mixed sm M) r) h =
        mixes i n (suc s) (a + 1) (omega arith) (omega arith) (omega arith) r
        (C.sought-next F L m (m + 1) (omega arith) (omega arith) l (omega arith) sm (rw e at M) h)
    mixes i (suc n) s a e l g (more over r) h = mixes i n (suc s) (a + 1) (omega arith) (omega arith) (omega arith) r h

    clears : (i n s a : ℕ) → a ≡ suc s → suc i ≤ s → s + n ≡ m → {R S : Run} → Performs (each (Clear (suc i)) a n) R S
        → Stands (Cleared i s) R → Stands (Cleared i m) S
    unfolding each
    clears i zero s a e l g {R} none h = let d : s ≡ m = omega arith in subst (λ (k : ℕ). Stands (Cleared i k) R) d h
    clears i (suc n) s a e l g (more (cleared sm M) r) h =
        clears i n (suc s) (a + 1) (omega arith) (omega arith) (omega arith) r
        (C.cleared_next F L m (m + 1) (omega arith) (omega arith) l (omega arith) sm (rw e at M) h)
    clears i (suc n) s a e l g (more over r) h = clears i n (suc s) (a + 1) (omega arith) (omega arith) (omega arith) r h

    from-check : (i : ℕ) → suc i ≤ m → {R S : Run}
        → Performs (Check (suc i) ∷ Scale (suc i) ∷ each (Clear (suc i)) (suc i + 1) (m - suc i)) R S → Stands (Sought i m) R
        → Stands (Cleared i m) S
    from-check i l (more (passed n) (more (scaled sm M) r)) h =
        clears i (m - suc i) (suc i) (suc i + 1) (omega arith) (omega arith) (omega arith) r
        (C.cleared_start F L m (m + 1) l (omega arith) h.shape n sm M)
    from-check i l (more (halts e) (more over r)) h =
        clears i (m - suc i) (suc i) (suc i + 1) (omega arith) (omega arith) (omega arith) r (stopped-at F L m l h e)
    from-check i l (more over (more over r)) h = clears i (m - suc i) (suc i) (suc i + 1) (omega arith) (omega arith) (omega arith) r h

    one_column : (i : ℕ) → suc i ≤ m → {R S : Run} → Performs (column m (suc i)) R S → Stands (Shaped i) R → Stands (Shaped (suc i)) S
    unfolding column
    one_column i l {R} {S} r h =
        let d = split (each (Mix (suc i)) (suc i + 1) (m - suc i)) r in
        then (λ U x. C.cleared_taken F L m (m + 1) l (omega arith) refl) S
        (from-check i l d.2
        (mixes i (m - suc i) (suc i) (suc i + 1) (omega arith) (omega arith) (omega arith) d.1
        (then (λ U x. C.sought_start F L m (m + 1) l (omega arith)) R h)))

    all-columns : (n i j : ℕ) → j ≡ suc i → i + n ≡ m → {R S : Run} → Performs (columns m j n) R S → Stands (Shaped i) R → Stands (Shaped m) S
    unfolding columns
    all-columns zero i j e g {R} none h = let d : i ≡ m = omega arith in subst (λ (k : ℕ). Stands (Shaped k) R) d h
    all-columns (suc n) i j e g {R} r h =
        let d = split (column m j) r in
        all-columns n (suc i) (j + 1) (omega arith) (omega arith) d.2
        (one_column i (omega arith) (subst (λ (k : ℕ). Performs (column m k) R d.0) e d.1) h)

    -- rows m down to n+1 of a table with all its pivots are opened
    record Found (n : ℕ) (U : Table) (x : ℕ → ℕ) : Type 0 where
      whole : Table
      shape : C.Shape F L m (m + 1) T own m m whole
      opening : A.Opening F own m (m + 1) (A.opened F own whole m (λ r. whole r (m + 1))) n U x

    -- the unknown of row n+1 is opened, and carried into the rows above
    next : (n : ℕ) → suc n ≤ m → {U W : Table} {x y : ℕ → ℕ} {v : ℕ} → Lifts m (m + 1) F (suc n) (suc n) v U W → v ≡ U (suc n) (m + 1)
        → y (suc n) ≡ U (suc n) (m + 1) → ((i : ℕ) → suc n < i → i ≤ m → y i ≡ x i) → Found (suc n) U x → Found n W y
    next n l O e here there h =
        record {
          whole = h.whole;
          shape = h.shape;
          opening =
              A.opening-next F own m (m + 1) (record { before = λ i a b. omega arith; apart = λ i k a b c e. omega arith }) _ n l O e here there
              h.opening;
        }

    all-openings : (n : ℕ) → n ≤ m → {R S : Run} → Performs (openings n) R S → Stands (Found n) R → Stands (Found 0) S
    unfolding openings
    all-openings zero l none h = h
    all-openings (suc zero) l (more (opened here there) none) h =
        next 0 l (record { new = λ r a b. absurd (let z : ⊥ = omega arith in z); kept = λ r c P e. refl }) here here there h
    all-openings (suc zero) l (more over none) h = h
    all-openings (suc (suc n)) l (more (opened here there) (more (lifted O) r)) h =
        all-openings (suc n) (omega arith) r (next (suc n) l O here here there h)
    all-openings (suc (suc n)) l (more over (more over r)) h = all-openings (suc n) (omega arith) r h

    pub listed : (x : ℕ → ℕ) {S : Run} → Performs (step_list m) (going T x) S → Stands (λ U y. IsSolved F m T y) S
    unfolding step_list
    listed x {S} r =
        let d = split (columns m 1 m) r in
        then (λ U y h. solved-with F L m small h.shape (λ c a b. h.opening.known c a b)) S
        (all-openings m (le_refl m) d.2
        (then (λ U y h. record { whole = U; shape = h; opening = A.opening_start F own m (m + 1) U y }) d.0
        (all-columns m 0 1 refl (omega arith) d.1 (C.shape_start F L m (m + 1) T own small))))
