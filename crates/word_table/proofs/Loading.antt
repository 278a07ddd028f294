-- Rows dealt into words make the table of words.
-- Assumes nothing.
use mathlib.Core.Path.{◌≡◌, refl, sym, ap, ◌∙◌}
use mathlib.Core.Bool.{Bool, true, false}
use Prim.Native.Nat.{ℕ, ◌+◌, ◌-◌, ◌*◌, ◌%◌, ◌<◌, ◌≤◌}
use mathlib.Core.List.{List, ◌++◌}
use native.Mathlib.Omega.{arith}
use native.Mathlib.Decide.{dec_lt}
use native.Mathlib.Nat.{mod-eq_of_lt}
use lib.Dec.{T, ltb, lt→ltb, lit<}
use lib.ListN.{length, get_or, take, drop}
use Rattle.field.specs.Field.{pick}
use Rattle.sharing.specs.Lists.{Below}
use Rattle.table.specs.Layout.{part, put}
use Rattle.table.proofs.Parts.{part-lent, put-lent, part_at, part_length, part_same, part-before, put-length}
use Rattle.table.proofs.Cells.{column_in}
use Rattle.table.proofs.Elements.{part_below}
use Rattle.table.proofs.Columns.{columns_ext}
use Rattle.word.specs.Rows.{byte_of, bytes_of, Dealt}
use Rattle.word_table.specs.Table.{row_words, table_of}
use Rattle.word_table.proofs.Standing.{list_ext, bytes-length, bytes-at, table-length, table-row}
use Rattle.word_table.proofs.Entering.{twice_back}

pick_true : {A : Type 0} (b : Bool) (x y : A) → T b → pick b x y ≡ x
pick_true true x y t = refl
pick_true false x y t = absurd t

-- what was dealt modulo 256 is the bytes themselves
pub dealt-bytes : (n columns : ℕ) (bytes row : List ℕ) → length bytes ≡ columns * n → Below 256 bytes → Dealt 256 n columns bytes row → bytes_of n columns row ≡ bytes
dealt-bytes n columns bytes row l small D =
    columns_ext n columns _ _ (bytes-length n columns row) l
    (λ u hu. list_ext _ _ n (part_length n (u * n) _ (rw (bytes-length n columns row) (column_in n hu))) (part_length n (u * n) bytes (rw l (column_in n hu)))
    (λ s hs. part_at n (u * n) (bytes_of n columns row) s hs ∙ bytes-at n columns row u s hu hs ∙ share u hu s hs ∙ sym (part_at n (u * n) bytes s hs)))
  where
    share : (u : ℕ) → u < columns → (s : ℕ) → s < n → byte_of n row (columns - 1 - u) s ≡ get_or bytes (u * n + s) 0
    share u hu s hs =
        D.at (columns - 1 - u) s (omega arith) hs
        ∙ pick_true (ltb (columns - 1 - u) columns) _ 0 (lt→ltb (columns - 1 - u) columns (omega arith))
        ∙ ap (λ (k : ℕ). get_or bytes (k * n + s) 0 % 256) (twice_back hu)
        ∙ mod-eq_of_lt (small.at (u * n + s))

-- row i, from 0, is now that of the bytes, and those before it stayed
pub record LoadedRow (n w i : ℕ) (t words new : List ℕ) : Type 0 where
  pub size : length new ≡ length words
  pub bytes : bytes_of n w (part (row_words n w) (i * row_words n w) new) ≡ part (w * n) (i * (w * n)) t
  pub beside : (v : ℕ) → v < i → part (row_words n w) (v * row_words n w) new ≡ part (row_words n w) (v * row_words n w) words

-- one row dealt
pub loaded_row : (n w i : ℕ) (t words row : List ℕ) → length row ≡ row_words n w → i * row_words n w + row_words n w ≤ length words → i * (w * n) + w * n ≤ length t → Below 256 t
    → Dealt 256 n w (part (w * n) (i * (w * n)) t) row → LoadedRow n w i t words (put (row_words n w) (i * row_words n w) row words)
loaded_row n w i t words row lr fits inside small D =
    record {
      size = put-length (row_words n w) (i * row_words n w) row words lr fits;
      bytes =
          ap (bytes_of n w) (part_same (row_words n w) (i * row_words n w) row words lr fits)
          ∙ dealt-bytes n w _ row (part_length (w * n) (i * (w * n)) t inside) (part_below (lit< tt) (w * n) (i * (w * n)) t small) D;
      beside = λ v h. part-before (row_words n w) (i * row_words n w) row words lr fits (row_words n w) (v * row_words n w) (column_in (row_words n w) h);
    }

-- and by what was lent
pub loaded_part : (n w i size : ℕ) (t words row : List ℕ) → size ≡ row_words n w → length row ≡ size → i * size + size ≤ length words → i * (w * n) + w * n ≤ length t
    → Below 256 t → Dealt 256 n w (take (i * (w * n) + w * n - i * (w * n)) (drop (i * (w * n)) t)) row
    → LoadedRow n w i t words (take (i * size) words ++ (row ++ drop (i * size + size - i * size) (drop (i * size) words)))
loaded_part n w i size t words row e lr fits inside small D =
    rw (put-lent size (i * size) row words)
    (rw e (loaded_row n w i t words row (lr ∙ e) (rw e at fits) inside small (rw (part-lent (w * n) (i * (w * n)) t) at D)))

module _ (n w rows : ℕ) (t : List ℕ) where
  -- the first k rows are those of the bytes
  pub record Loaded (k : ℕ) (words : List ℕ) : Type 0 where
    pub at : (i : ℕ) → i < k → bytes_of n w (part (row_words n w) (i * row_words n w) words) ≡ part (w * n) (i * (w * n)) t

  pub loaded_next : (k : ℕ) (words new : List ℕ) → Loaded k words → LoadedRow n w k t words new → Loaded (k + 1) new
  loaded_next k words new L R =
      record {
        at = λ i h. elim (dec_lt i k) [
          | yes l ↦ ap (bytes_of n w) (R.beside i l) ∙ L.at i l
          | no l ↦ let e : i ≡ k = omega arith in rw e R.bytes
        ];
      }

  pub loaded_all : (words : List ℕ) → length t ≡ rows * (w * n) → Loaded rows words → table_of n w rows words ≡ t
  loaded_all words l L =
      columns_ext (w * n) rows _ _ (table-length n w rows words) l (λ i h. table-row n w rows words i h ∙ L.at i h)
