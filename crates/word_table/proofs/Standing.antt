-- Where the rows of a table in words stand, as words and as bytes: a row that is put as words is put as bytes.
-- Assumes nothing.
use mathlib.Core.Path.{◌≡◌, refl, sym, ap, ap₂, ◌∙◌}
use Prim.Native.Nat.{ℕ, zero, suc, ◌+◌, ◌-◌, ◌*◌, ◌<◌, ◌≤◌}
use mathlib.Core.List.{List}
use native.Mathlib.Omega.{arith}
use native.Mathlib.Decide.{dec_lt}
use native.Mathlib.Nat.{suc-mul}
use lib.Arith.{digits_div, digits_mod}
use lib.ListN.{length, get_or, take, drop, length-append}
use lib.Seq.{drop-drop}
use Rattle.sharing.specs.Run.{tab}
use Rattle.sharing.proofs.Pairs.{tab-length, tab-at, tab_ext, tab_list}
use Rattle.table.specs.Layout.{part, put}
use Rattle.table.proofs.Parts.{part_length, part-all, part_at, part-part, part-first, part-second, part_same, part-before, part-behind, put-length}
use Rattle.table.proofs.Cells.{column_in}
use Rattle.table.proofs.Columns.{columns_ext}
use Rattle.word.specs.Rows.{byte_of, bytes_of}
use Rattle.word_table.specs.Table.{row_words, table_of}

-- ---- the bytes of a row

pub bytes-length : (n columns : ℕ) (row : List ℕ) → length (bytes_of n columns row) ≡ columns * n
unfolding bytes_of
bytes-length n columns row = tab-length (columns * n) _

-- share s of column u
pub bytes-at : (n columns : ℕ) (row : List ℕ) (u s : ℕ) → u < columns → s < n → get_or (bytes_of n columns row) (u * n + s) 0 ≡ byte_of n row (columns - 1 - u) s
unfolding bytes_of
bytes-at n columns row u s hu hs =
    tab-at (columns * n) _ (u * n + s) (omega (arith, column_in n hu))
    ∙ ap₂ (λ (x y : ℕ). byte_of n row (columns - 1 - x) y) (digits_div u hs) (digits_mod u hs)

-- lists by their places
pub list_ext : (a b : List ℕ) (k : ℕ) → length a ≡ k → length b ≡ k → ((i : ℕ) → i < k → get_or a i 0 ≡ get_or b i 0) → a ≡ b
list_ext a b k la lb h =
    sym (tab_list a) ∙ ap (λ (m : ℕ). tab m (λ i. get_or a i 0)) la ∙ tab_ext k h ∙ ap (λ (m : ℕ). tab m (λ i. get_or b i 0)) (sym lb) ∙ tab_list b

-- column u, as its n shares
pub bytes-column : (n columns : ℕ) (row : List ℕ) (u : ℕ) → u < columns → part n (u * n) (bytes_of n columns row) ≡ tab n (byte_of n row (columns - 1 - u))
bytes-column n columns row u hu =
    list_ext _ _ n (part_length n (u * n) (bytes_of n columns row) (rw (bytes-length n columns row) (column_in n hu))) (tab-length n _)
    (λ s hs. part_at n (u * n) (bytes_of n columns row) s hs ∙ bytes-at n columns row u s hu hs ∙ sym (tab-at n (byte_of n row (columns - 1 - u)) s hs))

-- rows whose columns are the same in every share
pub bytes_ext : (n columns : ℕ) (a b : List ℕ) → ((e s : ℕ) → e < columns → s < n → byte_of n a e s ≡ byte_of n b e s) → bytes_of n columns a ≡ bytes_of n columns b
bytes_ext n columns a b h =
    columns_ext n columns _ _ (bytes-length n columns a) (bytes-length n columns b)
    (λ u hu. bytes-column n columns a u hu ∙ tab_ext n (λ s hs. h (columns - 1 - u) s (omega arith) hs) ∙ sym (bytes-column n columns b u hu))

-- the last columns of a row begin behind those before them
pub bytes-last : (n before columns : ℕ) (row : List ℕ) → part (columns * n) (before * n) (bytes_of n (before + columns) row) ≡ bytes_of n columns row
bytes-last n before columns row =
    columns_ext n columns _ _ (part_length (columns * n) (before * n) B fits) (bytes-length n columns row)
    (λ u hu.
    let e : before * n + u * n ≡ (before + u) * n = sym (distribute before u n) in
    let d : before + columns - 1 - (before + u) ≡ columns - 1 - u = omega arith in
    part-part n (u * n) (columns * n) (before * n) B (column_in n hu)
    ∙ ap (λ (p : ℕ). part n p B) e
    ∙ bytes-column n (before + columns) row (before + u) (omega arith)
    ∙ ap (λ (k : ℕ). tab n (byte_of n row k)) d
    ∙ sym (bytes-column n columns row u hu))
  where
    distribute : (a b k : ℕ) → (a + b) * k ≡ a * k + b * k
    distribute zero b k = omega arith
    distribute (suc a) b k = omega (arith, suc-mul (a + b) k, suc-mul a k, distribute a b k)

    B : List ℕ
    B = bytes_of n (before + columns) row

    fits : before * n + columns * n ≤ length B
    fits = rw (bytes-length n (before + columns) row, distribute before columns n) (omega arith)

-- ---- the rows of a table

pub table-length : (n w rows : ℕ) (words : List ℕ) → length (table_of n w rows words) ≡ rows * (w * n)
unfolding table_of
table-length n w zero words = omega arith
table-length n w (suc rows) words =
    length-append (bytes_of n w (take (row_words n w) words)) (table_of n w rows (drop (row_words n w) words))
    ∙ ap₂ ◌+◌ (bytes-length n w (take (row_words n w) words)) (table-length n w rows (drop (row_words n w) words))
    ∙ sym (suc-mul-first rows (w * n))
  where
    suc-mul-first : (a k : ℕ) → suc a * k ≡ k + a * k
    suc-mul-first a k = omega (arith, suc-mul a k)

first_part : (k : ℕ) (t : List ℕ) → take k t ≡ part k 0 t
unfolding part
first_part k t = refl

later-part : (k i : ℕ) (t : List ℕ) → part k (i * k) (drop k t) ≡ part k (suc i * k) t
unfolding part
later-part k i t = let e : k + i * k ≡ suc i * k = omega (arith, suc-mul i k) in rw (drop-drop (i * k) k t, e)

-- row i, from 0
pub table-row : (n w rows : ℕ) (words : List ℕ) (i : ℕ) → i < rows
    → part (w * n) (i * (w * n)) (table_of n w rows words) ≡ bytes_of n w (part (row_words n w) (i * row_words n w) words)
unfolding table_of
table-row n w zero words i h = absurd (omega arith)
table-row n w (suc rows) words zero h =
    let B = bytes_of n w (take (row_words n w) words) in
    let e : 0 * (w * n) ≡ 0 = omega arith in
    let g : 0 * row_words n w ≡ 0 = omega arith in
    rw (e, g) (part-first (w * n) 0 B _ (omega (arith, bytes-length n w (take (row_words n w) words))) ∙ part-all (w * n) B (bytes-length n w (take (row_words n w) words)) ∙ ap (bytes_of n w) (first_part (row_words n w) words))
table-row n w (suc rows) words (suc i) h =
    let B = bytes_of n w (take (row_words n w) words) in
    let e : suc i * (w * n) ≡ w * n + i * (w * n) = omega (arith, suc-mul i (w * n)) in
    rw e
    (part-second (w * n) (i * (w * n)) (w * n) B _ (bytes-length n w (take (row_words n w) words))
    ∙ table-row n w rows (drop (row_words n w) words) i (omega arith) ∙ ap (bytes_of n w) (later-part (row_words n w) i words))

module _ (n w rows : ℕ) (row words : List ℕ) (i : ℕ) (hi : i < rows) (lr : length row ≡ row_words n w) (fits : rows * row_words n w ≤ length words) where
  -- row i becomes other words, and so other bytes
  pub table-put : table_of n w rows (put (row_words n w) (i * row_words n w) row words) ≡ put (w * n) (i * (w * n)) (bytes_of n w row) (table_of n w rows words)
  table-put =
      columns_ext (w * n) rows _ _ (table-length n w rows _) (put-length (w * n) (i * (w * n)) B T lb inside ∙ table-length n w rows words)
      (λ v hv. table-row n w rows _ v hv ∙ same v hv)
    where
      B : List ℕ
      B = bytes_of n w row

      T : List ℕ
      T = table_of n w rows words

      lb : length B ≡ w * n
      lb = bytes-length n w row

      inside : i * (w * n) + w * n ≤ length T
      inside = omega (arith, table-length n w rows words, column_in (w * n) hi)

      within : i * row_words n w + row_words n w ≤ length words
      within = omega (arith, column_in (row_words n w) hi)

      P : List ℕ
      P = put (row_words n w) (i * row_words n w) row words

      same : (v : ℕ) → v < rows → bytes_of n w (part (row_words n w) (v * row_words n w) P) ≡ part (w * n) (v * (w * n)) (put (w * n) (i * (w * n)) B T)
      same v hv = elim (dec_lt v i) [
        | yes l ↦
            ap (bytes_of n w) (part-before (row_words n w) (i * row_words n w) row words lr within (row_words n w) (v * row_words n w) (column_in (row_words n w) l))
            ∙ sym (part-before (w * n) (i * (w * n)) B T lb inside (w * n) (v * (w * n)) (column_in (w * n) l) ∙ table-row n w rows words v hv)
        | no l ↦ elim (dec_lt i v) [
          | yes g ↦
              ap (bytes_of n w) (part-behind (row_words n w) (i * row_words n w) row words lr within (row_words n w) (v * row_words n w) (column_in (row_words n w) g))
              ∙ sym (part-behind (w * n) (i * (w * n)) B T lb inside (w * n) (v * (w * n)) (column_in (w * n) g) ∙ table-row n w rows words v hv)
          | no g ↦
              let e : v ≡ i = omega arith in
              rw e (ap (bytes_of n w) (part_same (row_words n w) (i * row_words n w) row words lr within) ∙ sym (part_same (w * n) (i * (w * n)) B T lb inside))
        ]
      ]
