-- Scale on a row of words: the row as bytes is scaled as its table would be.
-- Assumes nothing.
use mathlib.Core.Path.{◌≡◌, sym, ap, ◌∙◌}
use Prim.Native.Nat.{ℕ, ◌+◌, ◌-◌, ◌*◌, ◌<◌, ◌≤◌}
use mathlib.Core.List.{List, ◌++◌}
use native.Mathlib.Omega.{arith}
use native.Mathlib.Nat.{mul-le-mul_right, zero-mul}
use lib.ListN.{length, get_or, take, drop}
use Rattle.field.specs.Field.{field_of}
use Rattle.sharing.specs.Rules.{factors, inversion_draws}
use Rattle.sharing.proofs.Pairs.{tab-length, tab-at}
use Rattle.table.specs.Layout.{cell, part, put, entry, columns_from, row_from, put_row, Inside}
use Rattle.table.specs.Steps.{scale_all, scale}
use Rattle.std.proofs.lemmas.List.{drop_all, append-nil}
use Rattle.table.proofs.Parts.{part-all, part_length, part_at, part-part, part-lent, put-lent}
use Rattle.table.proofs.Cells.{column_in}
use Rattle.table.proofs.Columns.{columns_ext}
use Rattle.table.proofs.Lent.{lent_length}
use Rattle.table.proofs.Lengths.{scale_all-length}
use Rattle.word.specs.Rows.{byte_of, words_of, bytes_of, PutBytes}
use Rattle.word_table.specs.Table.{row_words, table_of, row_at}
use Rattle.word_table.specs.Code.Scaling.{scale_bytes}
use Rattle.word_table.proofs.Standing.{bytes-length, bytes-column, list_ext}
use Rattle.word_table.proofs.Entering.{row_from_of, table-from}

there_and_back : {u columns : ℕ} → u < columns → columns - 1 - (columns - 1 - u) ≡ u
there_and_back h = omega arith

-- the bytes that were put are those of the row
pub put-bytes : (n columns : ℕ) (bytes row new : List ℕ) → length bytes ≡ columns * n → PutBytes n columns bytes row new → bytes_of n columns new ≡ bytes
put-bytes n columns bytes row new lb P =
    columns_ext n columns _ _ (bytes-length n columns new) lb
    (λ u hu.
    bytes-column n columns new u hu
    ∙ list_ext _ _ n (tab-length n _) (part_length n (u * n) bytes (omega (arith, column_in n hu, lb)))
    (λ s hs.
    tab-at n (byte_of n new (columns - 1 - u)) s hs ∙ P.at (columns - 1 - u) s (omega arith) hs
    ∙ ap (λ (k : ℕ). get_or bytes (k * n + s) 0) (there_and_back hu) ∙ sym (part_at n (u * n) bytes s hs)))

pub scale_bytes-length : (f n columns : ℕ) (nz ds row : List ℕ) → length row ≡ columns * n → length (scale_bytes f n columns nz ds row) ≡ columns * n
unfolding scale_bytes
scale_bytes-length f n columns nz ds row l = scale_all-length (field_of f) n columns row l _ _

first_cell : (n w : ℕ) → cell n w 1 1 ≡ 0
unfolding cell
first_cell n w = let e : 0 * w + 0 ≡ 0 = omega arith in ap (λ (x : ℕ). x * n) e ∙ zero-mul n

-- a list that is replaced from end to end
put_whole : (k : ℕ) (s t : List ℕ) → length t ≡ k → put k 0 s t ≡ s
unfolding put
put_whole k s t h = ap (λ (r : List ℕ). s ++ r) (drop_all k t (omega arith)) ∙ append-nil s

-- what a table of this row alone becomes
pub scaled-bytes : (f n columns : ℕ) (nz ds row : List ℕ) → length row ≡ columns * n → scale f n columns 1 1 nz ds row ≡ scale_bytes f n columns nz ds row
unfolding scale scale_bytes part
scaled-bytes f n columns nz ds row h =
    let z : cell n columns 1 1 ≡ 0 = first_cell n columns in
    let l : columns + 1 - 1 ≡ columns = omega arith in
    rw (z, l, part-all (columns * n) row h)
    (put_whole (columns * n) _ row h)

-- a row begins with its first entry
first_entry : (n w r j : ℕ) (t : List ℕ) → 1 ≤ columns_from w j → take n (row_from n w r j t) ≡ entry n w r j t
unfolding part
first_entry n w r j t h =
    let e : cell n w r j + 0 ≡ cell n w r j = omega arith in
    part-part n 0 (columns_from w j * n) (cell n w r j) t (omega (arith, column_in n {u = 0} {columns = columns_from w j} h))
    ∙ ap (λ (p : ℕ). part n p t) e

-- row r from column j on is scaled, and so is the table
pub scaled-table : (f n w rows : ℕ) (nz ds words row new : List ℕ) {r j : ℕ} → Inside rows w r j → rows * row_words n w ≤ length words
    → row ≡ row_at n w r words → length new ≡ row_words n w
    → PutBytes n (columns_from w j) (scale_bytes f n (columns_from w j) nz ds (bytes_of n (columns_from w j) row)) row new
    → table_of n w rows (put (row_words n w) ((r - 1) * row_words n w) new words) ≡ scale f n w r j nz ds (table_of n w rows words)
unfolding scale scale_bytes
scaled-table f n w rows nz ds words row new {r} {j} P fits er ln B =
    table-from n w rows words P new ln fits (λ e s h g. B.beyond e s h g ∙ ap (λ (x : List ℕ). byte_of n x e s) er)
    ∙ ap (λ (x : List ℕ). put_row n w r j x T) (put-bytes n last (scale_bytes f n last nz ds (bytes_of n last row)) row new (scale_bytes-length f n last nz ds (bytes_of n last row) (bytes-length n last row)) B
    ∙ ap (scale_bytes f n last nz ds) (ap (bytes_of n last) er ∙ sym (row_from_of n w rows words P))
    ∙ ap (λ (e : List ℕ). scale_all (field_of f) n last (factors (field_of f) nz ds e) (drop (inversion_draws n) ds) (row_from n w r j T)) (first_entry n w r j T (omega arith)))
  where
    last : ℕ
    last = columns_from w j

    T : List ℕ
    T = table_of n w rows words

-- fewer columns take no more words
pub fewer_words : (n : ℕ) {columns w : ℕ} → columns ≤ w → row_words n columns ≤ row_words n w
fewer_words n {columns} {w} h = let e : words_of columns ≤ words_of w = omega arith in mul-le-mul_right n e

-- and as the row is lent, of which the code knows the size
pub scaled-lent : (f n w rows size : ℕ) (nz ds words new : List ℕ) {r j : ℕ} → Inside rows w r j → rows * row_words n w ≤ length words
    → size ≡ row_words n w → (r - 1) * size + size ≤ length words
    → let row = take ((r - 1) * size + size - (r - 1) * size) (drop ((r - 1) * size) words) in
    length new ≡ length row → PutBytes n (columns_from w j) (scale_bytes f n (columns_from w j) nz ds (bytes_of n (columns_from w j) row)) row new
    → table_of n w rows (take ((r - 1) * size) words ++ (new ++ drop ((r - 1) * size + size - (r - 1) * size) (drop ((r - 1) * size) words))) ≡ scale f n w r j nz ds (table_of n w rows words)
unfolding row_at
scaled-lent f n w rows size nz ds words new {r} P fits e inside ln B =
    ap (table_of n w rows) (put-lent size ((r - 1) * size) new words ∙ ap (λ (k : ℕ). put k ((r - 1) * k) new words) e)
    ∙ scaled-table f n w rows nz ds words _ new P fits (part-lent size ((r - 1) * size) words ∙ ap (λ (k : ℕ). part k ((r - 1) * k) words) e) (ln ∙ lent_length size ((r - 1) * size) words inside ∙ e) B
