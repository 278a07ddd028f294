-- All rows put as bytes make the table of bytes.
-- Assumes nothing.
use mathlib.Core.Path.{◌≡◌, sym, ◌∙◌, subst⁻¹}
use Prim.Native.Nat.{ℕ, suc, ◌+◌, ◌-◌, ◌*◌, ◌<◌, ◌≤◌}
use mathlib.Core.List.{List, ◌++◌}
use native.Mathlib.Omega.{arith}
use native.Mathlib.Decide.{dec_lt}
use lib.ListN.{length, take, drop}
use Rattle.sharing.specs.Run.{run}
use Rattle.sharing.proofs.Pairs.{run_holds}
use Rattle.table.specs.Layout.{part, put, table_bytes}
use Rattle.table.proofs.Parts.{part-lent, put-lent, part_same, part-before, put-length}
use Rattle.table.proofs.Cells.{column_in}
use Rattle.table.proofs.Columns.{columns_ext}
use Rattle.word.specs.Rows.{bytes_of}
use Rattle.word_table.specs.Table.{row_words, table_of}
use Rattle.word_table.proofs.Standing.{bytes-length, table-length, table-row}
use Rattle.word_table.proofs.Sizes.{table-rows}

-- row i of the bytes, from 0, becomes that of the words
unfoldable pub store_turn : ℕ → ℕ → List ℕ → ℕ → List ℕ → List ℕ
store_turn n w words i t = put (w * n) (i * (w * n)) (bytes_of n w (part (row_words n w) (i * row_words n w) words)) t

module _ (n w rows : ℕ) (words : List ℕ) where
  -- the first k rows are as the words have them
  record Stored (k : ℕ) (t : List ℕ) : Type 0 where
    size : length t ≡ rows * (w * n)
    at : (i : ℕ) → i < k → i < rows → part (w * n) (i * (w * n)) t ≡ bytes_of n w (part (row_words n w) (i * row_words n w) words)

  turned : (k : ℕ) → k < rows → (t : List ℕ) → Stored k t → Stored (suc k) (store_turn n w words k t)
  unfolding store_turn
  turned k h t S =
      record {
        size = put-length (w * n) (k * (w * n)) B t lb fits ∙ S.size;
        at = λ i g l. elim (dec_lt i k) [
          | yes m ↦ part-before (w * n) (k * (w * n)) B t lb fits (w * n) (i * (w * n)) (column_in (w * n) m) ∙ S.at i m l
          | no m ↦
              let e : i ≡ k = omega arith in
              subst⁻¹ (λ (v : ℕ). part (w * n) (v * (w * n)) (put (w * n) (k * (w * n)) B t) ≡ bytes_of n w (part (row_words n w) (v * row_words n w) words)) e
              (part_same (w * n) (k * (w * n)) B t lb fits)
        ];
      }
    where
      B : List ℕ
      B = bytes_of n w (part (row_words n w) (k * row_words n w) words)

      lb : length B ≡ w * n
      lb = bytes-length n w (part (row_words n w) (k * row_words n w) words)

      fits : k * (w * n) + w * n ≤ length t
      fits = omega (arith, S.size, column_in (w * n) h)

  module _ (t : List ℕ) (lt : length t ≡ table_bytes n rows w) where
    all : Stored rows (run (store_turn n w words) rows t)
    all =
        run_holds (λ (k : ℕ) (s : List ℕ). Stored k s) (store_turn n w words) rows turned t
        (record { size = lt ∙ table-rows n rows w; at = λ i g l. absurd (omega arith) })

    pub stored : run (store_turn n w words) rows t ≡ table_of n w rows words
    stored =
        columns_ext (w * n) rows _ _ all.size (table-length n w rows words)
        (λ i h. all.at i h h ∙ sym (table-row n w rows words i h))

-- a turn, by what was lent
pub stored_part : (n w r size : ℕ) (words t : List ℕ) → size ≡ row_words n w
    → take (r * (w * n)) t ++ (bytes_of n w (take (r * size + size - r * size) (drop (r * size) words)) ++ drop (r * (w * n) + w * n - r * (w * n)) (drop (r * (w * n)) t))
    ≡ store_turn n w words r t
unfolding store_turn
stored_part n w r size words t e =
    put-lent (w * n) (r * (w * n)) (bytes_of n w (take (r * size + size - r * size) (drop (r * size) words))) t ∙ rw (part-lent size (r * size) words, e)
