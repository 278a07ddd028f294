-- What holds of the values at each place of a wide solve, and where a column begins and ends: while columns are worked on, the shape of the
-- table by the pivots found; after that, what is opened and what the table still gives.
-- Assumes nothing.
use mathlib.Core.List.{List, [], ◌∷◌}
use mathlib.Core.Bool.{true}
use mathlib.Core.Path.{◌≡◌, ◌∙◌}
use mathlib.Core.Logic.{◌≢◌}
use Prim.Native.Nat.{ℕ, suc, ◌+◌, ◌-◌, ◌≤◌}
use native.Mathlib.Omega.{arith}
use lib.ListN.{length}
use Rattle.field.specs.Field.{Ops, Field}
use Rattle.algebra.specs.Linear.{Table}
use Rattle.algebra.specs.Wide.{pivot_at, Passed}
use Rattle.algebra.proofs.Opened.{opened, Opening, opening_start}
use Rattle.algebra.proofs.Column.{Shape, Sought, Cleared, shape_rest, sought_start, cleared_taken}
use Rattle.algebra.proofs.Pattern.{pivot_at_lem}
use Rattle.course.specs.declared.Step.TheVariants.{Mix, Check, Scale, Clear, Open, Lift}
use Rattle.course.proofs.Before.{by_less}
use Rattle.pattern.specs.declared.WideOrder.{WideOrder}
use Rattle.pattern.specs.declared.WidePlace.{WidePlace}
use Rattle.pattern.specs.declared.WidePlace.TheVariants.{At, Short, Done}
use Rattle.pattern.specs.Pivots.{row_of, last, ascends}
use Rattle.pattern.specs.Next.{next_column}
use Rattle.pattern.proofs.Ascending.{last-at, has-says}
use Rattle.pattern.proofs.Standing.{by_most, last_in}
use Rattle.pattern.proofs.Before.{last_row}

-- the last pivot is that of the last row that has one
pub last_pivot : (ps : List ℕ) → 1 ≤ length ps → pivot_at ps (length ps) ≡ last ps
last_pivot [] l = absurd (omega arith)
last_pivot (p ∷ ps) l = pivot_at_lem (p ∷ ps) (length ps) ∙ last-at p ps

-- while columns are worked on no unknown is written
abbrev pub Blank : WideOrder → (ℕ → ℕ) → Type 0
Blank o x = (c : ℕ) → 1 ≤ c → c ≤ o.columns → x c ≡ 0

module _ (o : WideOrder) (F : Ops) (L : Field F) (T : Table) where
  abbrev m : ℕ
  m = o.rows

  abbrev C : ℕ
  C = o.columns

  -- every row has its pivot, and those of rows m down to n+1 are opened
  pub record Opens (ps : List ℕ) (n : ℕ) (U : Table) (x : ℕ → ℕ) : Type 0 where
    pub whole : Table
    pub shape : Shape F L m (C + 1) T (pivot_at ps) m C whole
    pub opening : Opening F (pivot_at ps) m (C + 1) (opened F (pivot_at ps) whole m (λ r. whole r (C + 1))) n U x
    pub zeros : (c : ℕ) → 1 ≤ c → c ≤ C → Passed ps c → x c ≡ 0

  -- U has the values and x the unknowns at a place; T has the values at the start. From Scale on the column at work is the last of the pivots ps
  abbrev pub Holds : WidePlace → List ℕ → Table → (ℕ → ℕ) → Type 0
  Holds (At (Mix j k)) ps U x = Sought F L m (C + 1) T (pivot_at ps) (length ps) (j - 1) (k - 1) U × Blank o x
  Holds (At (Check j)) ps U x = Sought F L m (C + 1) T (pivot_at ps) (length ps) (j - 1) m U × Blank o x
  Holds (At (Scale j)) ps U x = Shape F L m (C + 1) T (pivot_at ps) (length ps - 1) (j - 1) U × (U (length ps) j ≢ 0) × Blank o x
  Holds (At (Clear j k)) ps U x = Cleared F L m (C + 1) T (pivot_at ps) (length ps - 1) (j - 1) (k - 1) U × Blank o x
  Holds (At (Open j)) ps U x = Opens ps (row_of ps j) U x
  Holds (At (Lift j)) ps U x = Opens ps (row_of ps j) U x × (x j ≡ U (row_of ps j) (C + 1))
  Holds Short ps U x = Shape F L m (C + 1) T (pivot_at ps) (length ps) C U × Blank o x
  Holds Done ps U x = Opens ps 0 U x

  module _ (some : 1 ≤ m) (ps : List ℕ) (h : ascends 0 C ps ≡ true) (few : length ps ≤ m) where
    -- columns 1 to j are done: the next begins, or rows or columns have run out
    pub begins : (j : ℕ) → j ≤ C → {U : Table} {x : ℕ → ℕ} → Shape F L m (C + 1) T (pivot_at ps) (length ps) j U → Blank o x
        → Holds (next_column m C ps (j + 1)) ps U x
    unfolding next_column
    begins j l {U} {x} s b =
        by_most P m (length ps)
        (λ a.
        let full : length ps ≡ m = omega arith in
        let first = has-says ps (last ps) (last_in C ps h (omega arith)) in
        rw (last_row m C ps h first.0, full)
        (record {
          whole = U;
          shape = shape_rest F L m (C + 1) C l (rw full at s);
          opening = opening_start F (pivot_at ps) m (C + 1) U x;
          zeros = λ c d e _. b c d e;
        }))
        (λ a. by_less P C (j + 1) (λ d. let e : j ≡ C = omega arith in (rw e at s, b))
        (λ d.
        let e : j + 1 - 1 ≡ j = omega arith in
        let start : Sought F L m (C + 1) T (pivot_at ps) (length ps) j (suc (length ps)) U = sought_start F L m (C + 1) (omega arith) (omega arith) s in
        by_less P (length ps + 1) m (λ g. let k : length ps + 2 - 1 ≡ suc (length ps) = omega arith in (rw (e, k) start, b))
        (λ g. let k : suc (length ps) ≡ m = omega arith in (rw e (rw k at start), b))))
      where
        P : WidePlace → Type 0
        P p = Holds p ps U x

    -- the rows below the last pivot are cleared, and its column is done
    pub taken : (j : ℕ) → (1 ≤ j) × (last ps ≡ j) → 1 ≤ length ps → j ≤ C → {U : Table}
        → Cleared F L m (C + 1) T (pivot_at ps) (length ps - 1) (j - 1) m U → Shape F L m (C + 1) T (pivot_at ps) (length ps) j U
    taken j s l i c =
        let row : suc (length ps - 1) ≡ length ps = omega arith in
        let column : suc (j - 1) ≡ j = omega (arith, s.0) in
        rw (row, column) at
        (cleared_taken F L m (C + 1) (omega arith) (omega arith) (rw (row, column) (last_pivot ps l ∙ s.1)) c)
