-- The columns of a row make the row. A loop over them keeps the row's length, and each column becomes its own turn of itself.
-- Assumes nothing.
use mathlib.Core.Path.{◌≡◌, refl, sym, ap, ap₂, ◌∙◌, subst⁻¹}
use Prim.Native.Nat.{ℕ, zero, suc, ◌+◌, ◌*◌, ◌<◌, ◌≤◌}
use mathlib.Core.List.{List, [], ◌∷◌, ◌++◌}
use native.Mathlib.Omega.{arith}
use native.Mathlib.Decide.{dec_lt}
use native.Mathlib.Nat.{le_refl, suc-mul}
use lib.ListN.{length, take, drop, length-drop, take-append-drop}
use lib.Seq.{drop-drop}
use Rattle.sharing.proofs.Pairs.{run_holds}
use Rattle.table.specs.Layout.{part}
use Rattle.table.specs.Steps.{column_turn, over_columns}
use Rattle.table.proofs.Parts.{part_length, part_same, part-before, part-behind, put-length}
use Rattle.table.proofs.Cells.{column_in}

-- rows whose columns are the same
pub columns_ext : (n columns : ℕ) (a b : List ℕ) → length a ≡ columns * n → length b ≡ columns * n
    → ((u : ℕ) → u < columns → part n (u * n) a ≡ part n (u * n) b) → a ≡ b
unfolding part
columns_ext n zero [] [] la lb h = refl
columns_ext n zero [] (y ∷ b) la lb h = absurd (omega (arith, lb))
columns_ext n zero (x ∷ a) b la lb h = absurd (omega (arith, la))
columns_ext n (suc k) a b la lb h =
    sym (take-append-drop n a)
    ∙ ap₂ (λ (x y : List ℕ). x ++ y) (first a ∙ h 0 (omega arith) ∙ sym (first b))
    (columns_ext n k (drop n a) (drop n b) (rw length-drop (omega (arith, la, suc-mul k n))) (rw length-drop (omega (arith, lb, suc-mul k n))) (λ u l. later a u ∙ h (suc u) (omega arith) ∙ sym (later b u)))
    ∙ take-append-drop n b
  where
    first : (s : List ℕ) → take n s ≡ take n (drop (0 * n) s)
    first s = let e : 0 * n ≡ 0 = omega arith in rw e

    later : (s : List ℕ) (u : ℕ) → take n (drop (u * n) (drop n s)) ≡ take n (drop (suc u * n) s)
    later s u = let e : n + u * n ≡ suc u * n = omega (arith, suc-mul u n) in rw (drop-drop (u * n) n s, e)

-- a turn that keeps an entry's n shares
pub record Keeps (n : ℕ) (turn : ℕ → List ℕ → List ℕ) : Type 0 where
  pub shares : (u : ℕ) (e : List ℕ) → length e ≡ n → length (turn u e) ≡ n

module _ (n : ℕ) (turn : ℕ → List ℕ → List ℕ) (K : Keeps n turn) (columns : ℕ) (row : List ℕ) (lr : length row ≡ columns * n) where
  -- after k columns
  record Turned (k : ℕ) (s : List ℕ) : Type 0 where
    size : length s ≡ columns * n
    done : (u : ℕ) → u < k → u < columns → part n (u * n) s ≡ turn u (part n (u * n) row)
    left : (u : ℕ) → k ≤ u → u < columns → part n (u * n) s ≡ part n (u * n) row

  turned : (k : ℕ) → k < columns → (s : List ℕ) → Turned k s → Turned (suc k) (column_turn n turn k s)
  turned k h s T =
      record {
        size = put-length n (k * n) e s le fits ∙ T.size;
        done = λ u g l. elim (dec_lt u k) [
          | yes m ↦ part-before n (k * n) e s le fits n (u * n) (column_in n m) ∙ T.done u m l
          | no m ↦
              let same : u ≡ k = omega arith in
              subst⁻¹ (λ (i : ℕ). part n (i * n) (column_turn n turn k s) ≡ turn i (part n (i * n) row)) same
              (part_same n (k * n) e s le fits ∙ ap (turn k) (T.left k (le_refl k) h))
        ];
        left = λ u g l. part-behind n (k * n) e s le fits n (u * n) (column_in n g) ∙ T.left u (omega arith) l;
      }
    where
      e : List ℕ
      e = turn k (part n (k * n) s)

      fits : k * n + n ≤ length s
      fits = omega (arith, T.size, column_in n h)

      le : length e ≡ n
      le = K.shares k (part n (k * n) s) (part_length n (k * n) s fits)

  all : Turned columns (over_columns n turn columns row)
  unfolding over_columns
  all =
      run_holds (λ (k : ℕ) (s : List ℕ). Turned k s) (column_turn n turn) columns turned row
      (record { size = lr; done = λ u g l. absurd (omega arith); left = λ u g l. refl })

  pub over_columns-length : length (over_columns n turn columns row) ≡ columns * n
  over_columns-length = all.size

  pub over_columns-at : (u : ℕ) → u < columns → part n (u * n) (over_columns n turn columns row) ≡ turn u (part n (u * n) row)
  over_columns-at u h = all.done u h h
