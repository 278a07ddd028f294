-- The steps keep the length of a row and of the table, and each turn of a row keeps the shares of its entry.
-- Assumes nothing.
use mathlib.Core.Path.{◌≡◌, ◌∙◌}
use mathlib.Core.Bool.{Bool, true, false}
use Prim.Native.Nat.{ℕ, ◌+◌, ◌-◌, ◌*◌, ◌<◌}
use mathlib.Core.List.{List}
use native.Mathlib.Omega.{arith}
use lib.ListN.{length}
use Rattle.field.specs.Field.{Ops, sub, field_of}
use Rattle.sharing.specs.Rules.{scaled}
use Rattle.sharing.specs.Lists.{joined}
use Rattle.sharing.proofs.Pairs.{run_holds}
use Rattle.sharing.proofs.Lengths.{joined_length, scaled-length, refresh-length}
use Rattle.table.specs.Layout.{table_bytes, entry, row_from, Inside}
use Rattle.table.specs.Steps.{join_turn, join_row, join_rows, mix, scale_turn, scale_row, factor_turn, scale_all, scale, clear, lift_turn, lift}
use Rattle.table.proofs.Cells.{entry_length, row_from-length, put-entry-length, put_row-length}
use Rattle.table.proofs.Columns.{Keeps, over_columns-length}

-- ---- a row

module _ (F : Ops) (n : ℕ) where
  pub join_keeps : (minus : Bool) (ds factor other : List ℕ) → Keeps n (join_turn F minus n ds factor other)
  unfolding join_turn
  join_keeps minus ds factor other =
      record { shares = λ u e l. joined_length _ e _ ∙ l }

  pub scale_keeps : (z : ℕ) (ds : List ℕ) → Keeps n (scale_turn F n z ds)
  unfolding scale_turn
  scale_keeps z ds =
      record { shares = λ u e l. refresh-length F _ (scaled F z e) ∙ scaled-length F z e ∙ l }

  module _ (columns : ℕ) (row : List ℕ) (lr : length row ≡ columns * n) where
    pub join_row-length : (minus : Bool) (ds factor other : List ℕ) → length (join_row F minus n columns ds factor other row) ≡ columns * n
    unfolding join_row
    join_row-length minus ds factor other =
        over_columns-length n _ (join_keeps minus ds factor other) columns row lr

    pub scale_row-length : (z : ℕ) (ds : List ℕ) → length (scale_row F n columns z ds row) ≡ columns * n
    unfolding scale_row
    scale_row-length z ds = over_columns-length n _ (scale_keeps z ds) columns row lr

  pub scale_all-length : (columns : ℕ) (row : List ℕ) → length row ≡ columns * n → (fs ds : List ℕ)
      → length (scale_all F n columns fs ds row) ≡ columns * n
  unfolding scale_all factor_turn
  scale_all-length columns row lr fs ds =
      run_holds (λ (i : ℕ) (s : List ℕ). length s ≡ columns * n) (factor_turn F n columns fs ds) n
      (λ i h s l. scale_row-length columns s l _ _) row lr

-- ---- the table

-- the rows above row r, numbered from 0, in the last column
pub above : {rows w r j : ℕ} → Inside rows w r j → (i : ℕ) → i < r - 1 → Inside rows w (i + 1) w
above P i h =
    record { row_low = omega arith; row_high = omega arith; column_low = omega arith; column_high = omega arith }

module _ (n rows w : ℕ) (t : List ℕ) (lt : length t ≡ table_bytes n rows w) where
  pub join_rows-length : (F : Ops) (minus : Bool) {a j : ℕ} → Inside rows w a j → (b : ℕ) (factor ds : List ℕ)
      → length (join_rows F minus n w a b j factor ds t) ≡ table_bytes n rows w
  unfolding join_rows
  join_rows-length F minus {a} {j} P b factor ds =
      put_row-length n rows w t lt P _ (join_row-length F n _ _ (row_from-length n rows w t lt P) minus ds factor (row_from n w b j t))

  pub mix-length : (f : ℕ) {r j : ℕ} → Inside rows w r j → (k : ℕ) (ds : List ℕ) → length (mix f n w r j k ds t) ≡ table_bytes n rows w
  unfolding mix
  mix-length f P k ds = join_rows-length (field_of f) false P k _ _

  pub clear-length : (f : ℕ) {k j : ℕ} → Inside rows w k j → (r : ℕ) (ds : List ℕ) → length (clear f n w r j k ds t) ≡ table_bytes n rows w
  unfolding clear
  clear-length f P r ds = join_rows-length (field_of f) true P r _ ds

  pub scale-length : (f : ℕ) {r j : ℕ} → Inside rows w r j → (nz ds : List ℕ) → length (scale f n w r j nz ds t) ≡ table_bytes n rows w
  unfolding scale
  scale-length f P nz ds =
      put_row-length n rows w t lt P _ (scale_all-length (field_of f) n _ _ (row_from-length n rows w t lt P) _ _)

  -- what a turn of the lift puts has the shares of an entry
  pub lifted-length : (F : Ops) {s : ℕ} → Inside rows w s w → (x : ℕ) (v : List ℕ)
      → length (joined (sub F) (entry n w s w t) (scaled F x v)) ≡ n
  lifted-length F {s} Q x v = joined_length _ (entry n w s w t) _ ∙ entry_length n rows w t lt Q

  pub lift_turn-length : (F : Ops) {r j : ℕ} → Inside rows w r j → (x i : ℕ) → i < r - 1
      → length (lift_turn F n w j x i t) ≡ table_bytes n rows w
  unfolding lift_turn
  lift_turn-length F {j = j} P x i h =
      put-entry-length n rows w t lt (above P i h) _ (lifted-length F (above P i h) x (entry n w (i + 1) j t))

pub lift-length : (n rows w : ℕ) (t : List ℕ) → length t ≡ table_bytes n rows w → (f : ℕ) {r j : ℕ} → Inside rows w r j → (x : ℕ)
    → length (lift f n w r j x t) ≡ table_bytes n rows w
unfolding lift
lift-length n rows w t lt f {r} {j} P x =
    run_holds (λ (i : ℕ) (s : List ℕ). length s ≡ table_bytes n rows w) (lift_turn (field_of f) n w j x) (r - 1)
    (λ i h s l. lift_turn-length n rows w s l (field_of f) P x i h) t lt
