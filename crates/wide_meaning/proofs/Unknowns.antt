-- Open and Lift: what holds of the values and the unknowns at their places holds at the next, where the step did to them what algebra says of it.
-- Assumes nothing.
use mathlib.Core.List.{List}
use mathlib.Core.Bool.{true}
use mathlib.Core.Path.{◌≡◌, refl, sym, ◌∙◌}
use mathlib.Core.Logic.{◌≢◌}
use Prim.Native.Nat.{ℕ, suc, ◌+◌, ◌-◌, ◌<◌, ◌≤◌}
use native.Mathlib.Omega.{arith}
use lib.ListN.{length, get_or}
use Rattle.field.specs.Field.{Ops, Field}
use Rattle.algebra.specs.Linear.{Table}
use Rattle.algebra.specs.Steps.{Lifts}
use Rattle.algebra.specs.Wide.{pivot_at, Passed}
use Rattle.algebra.proofs.Opened.{Pivots, opening-next}
use Rattle.algebra.proofs.Column.{shape_pivots}
use Rattle.algebra.proofs.Pattern.{pivot_at_lem}
use Rattle.course.specs.declared.Step.TheVariants.{Open, Lift}
use Rattle.pattern.specs.declared.WideOrder.{WideOrder}
use Rattle.pattern.specs.declared.WidePlace.{WidePlace}
use Rattle.pattern.specs.declared.WidePlace.TheVariants.{At}
use Rattle.pattern.specs.Pivots.{before, row_of, ascends}
use Rattle.pattern.specs.Next.{following}
use Rattle.pattern.proofs.Ascending.{before_at, has-says}
use Rattle.pattern.proofs.Standing.{by_same, Stood}
use Rattle.wide_meaning.proofs.Holding.{Opens, Holds}

module _ (o : WideOrder) (F : Ops) (L : Field F) (T : Table) (ps : List ℕ) (h : ascends 0 o.columns ps ≡ true) where
  abbrev m : ℕ
  m = o.rows

  abbrev C : ℕ
  C = o.columns

  abbrev P : Table → (ℕ → ℕ) → WidePlace → Type 0
  P U x p = Holds o F L T p ps U x

  apart : {n : ℕ} {U : Table} {x : ℕ → ℕ} → Opens o F L T ps n U x → Pivots F (pivot_at ps) m (C + 1)
  apart g = shape_pivots F L m (C + 1) (omega arith) g.shape

  -- the pivot of row suc i is in column j
  module _ (i j : ℕ) (full : length ps ≡ m) (inside : suc i ≤ m) (at : pivot_at ps (suc i) ≡ j) {U : Table} {x y : ℕ → ℕ}
      (there : (c : ℕ) → 1 ≤ c → c ≢ j → y c ≡ x c) (g : Opens o F L T ps (suc i) U x) where
    -- it alone is written
    later : (k : ℕ) → suc i < k → k ≤ m → y (pivot_at ps k) ≡ x (pivot_at ps k)
    later k a b =
        there (pivot_at ps k) ((apart g).before k (omega arith) b).0 (λ z. (apart g).apart (suc i) k (omega arith) a b (at ∙ sym z))

    still_zero : (c : ℕ) → 1 ≤ c → c ≤ C → Passed ps c → y c ≡ 0
    still_zero c a b out = there c a (λ z. out (suc i) (omega arith) (omega arith) (at ∙ sym z)) ∙ g.zeros c a b out

    written : Opens o F L T ps (suc i) U y
    written =
        record {
          whole = g.whole;
          shape = g.shape;
          opening = record { known = λ k a b. later k a b ∙ g.opening.known k a b; left = g.opening.left };
          zeros = still_zero;
        }

    -- and carried into the rows above
    carried : {W : Table} {v : ℕ} → Lifts m (C + 1) F (suc i) j v U W → v ≡ U (suc i) (C + 1) → y j ≡ U (suc i) (C + 1) → Opens o F L T ps i W y
    carried O e here =
        record {
          whole = g.whole;
          shape = g.shape;
          opening = opening-next F (pivot_at ps) m (C + 1) (apart g) _ i inside (rw at O) e (rw at here) later g.opening;
          zeros = still_zero;
        }

  row_is : (j : ℕ) → row_of ps j ≡ suc (before ps j)
  unfolding row_of
  row_is j = omega arith

  pub opened : (j v : ℕ) → Stood o ps (At (Open j)) → {U : Table} {x y : ℕ → ℕ} → y j ≡ U (row_of ps j) (C + 1)
      → ((c : ℕ) → 1 ≤ c → c ≢ j → y c ≡ x c) → P U x (At (Open j)) → P U y (following m C ps (Open j) v)
  unfolding following
  opened j v s {U} {x} {y} here there g =
      let a = has-says ps j s.1 in
      let at : pivot_at ps (suc (before ps j)) ≡ j = pivot_at_lem ps (before ps j) ∙ a.2 in
      let inside : suc (before ps j) ≤ m = omega (arith, s.0, a.1) in
      by_same (P U y) (before ps j) 0
      (λ e.
      rw e at
      (carried (before ps j) j s.0 inside at there (rw (row_is j) at g)
      (record { new = λ r b c. absurd (let z : ⊥ = omega arith in z); kept = λ r c b d. refl }) refl (rw (row_is j) at here)))
      (λ e. (rw (row_is j) (written (before ps j) j s.0 inside at there (rw (row_is j) at g)), here))

  pub lifted : (j v : ℕ) → Stood o ps (At (Lift j)) → {U W : Table} {x : ℕ → ℕ} → Lifts m (C + 1) F (row_of ps j) j (x j) U W → P U x (At (Lift j))
      → P W x (following m C ps (Lift j) v)
  unfolding following
  lifted j v s {U} {W} {x} O g =
      let a = has-says ps j s.1 in
      let at : pivot_at ps (suc (before ps j)) ≡ j = pivot_at_lem ps (before ps j) ∙ a.2 in
      let inside : suc (before ps j) ≤ m = omega (arith, s.0, a.1) in
      let e : suc (before ps j - 1) ≡ before ps j = omega (arith, s.2) in
      rw (row_is (get_or ps (before ps j - 1) 0), before_at C 0 ps h (before ps j - 1) (omega (arith, a.1)), e)
      (carried (before ps j) j s.0 inside at (λ c b d. refl) (rw (row_is j) at g.0) (rw (row_is j) at O) (rw (row_is j) at g.1)
      (rw (row_is j) at g.1))
