-- The steps of a column: what holds of the values at their places holds at the next, where the step did to them what algebra says of it. The step's
-- row is the one that its column's pivots give.
-- Assumes nothing.
use mathlib.Core.List.{List}
use mathlib.Core.Bool.{true}
use mathlib.Core.Path.{◌≡◌, ◌∙◌}
use Prim.Native.Nat.{ℕ, suc, ◌+◌, ◌-◌, ◌<◌, ◌≤◌}
use native.Mathlib.Omega.{arith}
use native.Mathlib.Decide.{ℕ_discrete}
use lib.ListN.{length}
use borrow.Author.Tests.{eq-eqb, ne_eqb}
use Rattle.field.specs.Field.{Ops, Field}
use Rattle.flag.specs.Flag.{flag_of}
use Rattle.algebra.specs.Linear.{Table}
use Rattle.algebra.specs.Steps.{Mixes, Scales, Clears}
use Rattle.algebra.specs.Wide.{pivot_at}
use Rattle.algebra.proofs.Outcome.{Small}
use Rattle.algebra.proofs.Column.{Sought, Cleared, flag_yes, flag_no, shape_ext, sought-next, sought_pass, cleared_start, cleared_next}
use Rattle.algebra.proofs.Pattern.{pivot_kept, length_grown}
use Rattle.course.specs.declared.Step.TheVariants.{Mix, Check, Scale, Clear}
use Rattle.course.proofs.Before.{by_less}
use Rattle.pattern.specs.declared.WideOrder.{WideOrder}
use Rattle.pattern.specs.declared.WidePlace.{WidePlace}
use Rattle.pattern.specs.declared.WidePlace.TheVariants.{At}
use Rattle.pattern.specs.Pivots.{row_of, last, ascends}
use Rattle.pattern.specs.Next.{next_column, following}
use Rattle.pattern.proofs.Standing.{Stood, found_after}
use Rattle.pattern.proofs.Before.{next_row, row_of_lem, some_pivot, in_columns}
use Rattle.wide_meaning.proofs.Holding.{Blank, Holds, begins, taken}

module _ (o : WideOrder) (F : Ops) (L : Field F) (T : Table) (some : 1 ≤ o.rows) (ps : List ℕ) (h : ascends 0 o.columns ps ≡ true)
    (few : length ps ≤ o.rows) where
  abbrev m : ℕ
  m = o.rows

  abbrev C : ℕ
  C = o.columns

  abbrev P : Table → (ℕ → ℕ) → WidePlace → Type 0
  P U x p = Holds o F L T p ps U x

  -- a column behind the last pivot is at work on the next row
  next : {j : ℕ} → last ps < j → suc (length ps) ≡ row_of ps j
  next l = omega (arith, next_row m C ps h _ l)

  pub mixed : (j k v : ℕ) → Stood o ps (At (Mix j k)) → {U W : Table} {x : ℕ → ℕ} → Small F W → Mixes m (C + 1) F (row_of ps j) j k U W
      → P U x (At (Mix j k)) → P W x (following m C ps (Mix j k) v)
  unfolding following
  mixed j k v s {U} {W} {x} small M g =
      let row = next s.0 in
      let column : suc (j - 1) ≡ j = omega (arith, s.0) in
      let other : suc (k - 1) ≡ k = omega (arith, s.2) in
      let n : Sought F L m (C + 1) T (pivot_at ps) (length ps) (j - 1) (suc (k - 1)) W =
      sought-next F L m (C + 1) (omega (arith, s.2, s.3)) (omega (arith, s.1)) (omega (arith, s.2)) (omega (arith, s.3)) small
      (rw (row, column, other) M) g.0 in
      by_less (P W x) k m (λ l. let e : suc (k - 1) ≡ k + 1 - 1 = omega arith in (rw e at n, g.1))
      (λ l. let e : suc (k - 1) ≡ m = omega (arith, s.3) in (rw e at n, g.1))

  pub checked : (j v : ℕ) → Stood o ps (At (Check j)) → {U : Table} {x : ℕ → ℕ} → v ≡ flag_of (U (row_of ps j) j) → P U x (At (Check j))
      → Holds o F L T (following m C (found_after (Check j) v ps) (Check j) v) (found_after (Check j) v ps) U x
  unfolding following found_after
  checked j v s {U} {x} e g =
      let row = next s.0 in
      let column : suc (j - 1) ≡ j = omega (arith, s.0) in
      elim (ℕ_discrete (U (row_of ps j) j) 0) [
        | yes z ↦
            rw (eq-eqb v 1 (e ∙ flag_yes z))
            (begins o F L T some ps h few j s.1
            (rw column at (sought_pass F L m (C + 1) (omega (arith, s.2)) (omega (arith, s.1)) g.0 (rw (row, column) z))) g.1)
        | no n ↦
            let off : v ≡ 0 = e ∙ flag_no n in
            let one : suc (length ps) - 1 ≡ length ps = omega arith in
            rw (ne_eqb v 1 (λ y. omega arith), length_grown ps j)
            (rw one (shape_ext F L m (C + 1) (pivot_kept ps j) g.0.shape), rw row n, g.1)
      ]

  -- from Scale on
  module _ {j : ℕ} (s : (1 ≤ j) × (last ps ≡ j)) where
    row : suc (length ps - 1) ≡ length ps
    row = omega (arith, some_pivot o ps h s)

    column : suc (j - 1) ≡ j
    column = omega (arith, s.0)

    done : {U : Table} {x : ℕ → ℕ} → Cleared F L m (C + 1) T (pivot_at ps) (length ps - 1) (j - 1) m U → Blank o x
        → P U x (next_column m C ps (j + 1))
    done c b =
        let i = in_columns o ps h s in
        begins o F L T some ps h few j i (taken o F L T some ps h few j s (some_pivot o ps h s) i c) b

    pub scaled : (v : ℕ) → {U W : Table} {x : ℕ → ℕ} → Small F W → Scales m (C + 1) F (row_of ps j) j U W → P U x (At (Scale j))
        → P W x (following m C ps (Scale j) v)
    unfolding following
    scaled v {U} {W} {x} small S g =
        let n : Cleared F L m (C + 1) T (pivot_at ps) (length ps - 1) (j - 1) (suc (length ps - 1)) W =
        cleared_start F L m (C + 1) (omega (arith, row)) (omega (arith, in_columns o ps h s)) g.0 (rw (row, column) g.1) small
        (rw (row, column) (rw (row_of_lem o ps h s) at S)) in
        by_less (P W x) (length ps) m (λ l. let e : suc (length ps - 1) ≡ length ps + 1 - 1 = omega (arith, row) in (rw e at n, g.2))
        (λ l. let e : suc (length ps - 1) ≡ m = omega (arith, row) in done (rw e at n) g.2)

    pub cleared : (k v : ℕ) → length ps < k → k ≤ m → {U W : Table} {x : ℕ → ℕ} → Small F W → Clears m (C + 1) F (row_of ps j) j k U W
        → P U x (At (Clear j k)) → P W x (following m C ps (Clear j k) v)
    unfolding following
    cleared k v a b {U} {W} {x} small M g =
        let other : suc (k - 1) ≡ k = omega arith in
        let n : Cleared F L m (C + 1) T (pivot_at ps) (length ps - 1) (j - 1) (suc (k - 1)) W =
        cleared_next F L m (C + 1) (omega (arith, row)) (omega (arith, in_columns o ps h s)) (omega (arith, row)) (omega arith) small
        (rw (row, column, other) (rw (row_of_lem o ps h s) at M)) g.0 in
        by_less (P W x) k m (λ l. let e : suc (k - 1) ≡ k + 1 - 1 = omega arith in (rw e at n, g.1))
        (λ l. let e : suc (k - 1) ≡ m = omega arith in done (rw e at n) g.1)
