-- The entries and the rows of a table in words, as the steps of crate table name them; and a row whose last columns became other bytes.
-- Assumes nothing.
use mathlib.Core.Path.{◌≡◌, refl, sym, ap, ap₂, ◌∙◌}
use mathlib.Core.Bool.{Bool, true, false}
use Prim.Native.Nat.{ℕ, ◌+◌, ◌-◌, ◌*◌, ◌<◌, ◌≤◌}
use mathlib.Core.List.{List}
use native.Mathlib.Omega.{arith}
use native.Mathlib.Decide.{dec_lt}
use native.Mathlib.Nat.{mul_assoc, add-mul}
use lib.ListN.{length, get_or, drop}
use Rattle.field.specs.Field.{field_of, Binary}
use Rattle.field.proofs.Fields.{sub-add}
use Rattle.sharing.specs.Run.{tab, pairs}
use Rattle.sharing.specs.Rules.{product}
use Rattle.sharing.specs.Lists.{joined}
use Rattle.sharing.proofs.Pairs.{tab-length, tab-at, tab_ext}
use Rattle.table.specs.Layout.{cell, part, put, entry, columns_from, row_from, put_row, Inside}
use Rattle.table.specs.Steps.{signed, join_turn, join_row}
use Rattle.table.proofs.Parts.{part_length, part-part, part-before, part_inside, put-length, put_inside, put-part}
use Rattle.table.proofs.Cells.{column_in}
use Rattle.table.proofs.Columns.{columns_ext, over_columns-length, over_columns-at}
use Rattle.table.proofs.Lengths.{join_keeps}
use Rattle.word.specs.Rows.{byte_of, bytes_of, Joined}
use Rattle.word_table.specs.Table.{row_words, table_of, row_at}
use Rattle.word_table.proofs.Standing.{bytes-length, bytes-column, bytes-last, table-length, table-row, table-put}

-- a cell lies so far behind the start of its row
pub cell_in_row : (n w r c : ℕ) → cell n w r c ≡ (r - 1) * (w * n) + (c - 1) * n
unfolding cell
cell_in_row n w r c = add-mul ((r - 1) * w) (c - 1) n ∙ ap (λ (x : ℕ). x + (c - 1) * n) (mul_assoc (r - 1) w n)

-- a column among those from the front on, counted from there
counted : (u front : ℕ) → (u < front → ⊥) → u ≡ front + (u - front)
counted u front l = omega arith

counted-lt : (front last w u v : ℕ) → front + last ≡ w → u ≡ front + v → u < w → v < last
counted-lt front last w u v a b c = omega arith

counted_back : (front last w u v : ℕ) → front + last ≡ w → u ≡ front + v → last - 1 - v ≡ w - 1 - u
counted_back front last w u v a b = omega arith

module _ (n w rows : ℕ) (words : List ℕ) {r j : ℕ} (P : Inside rows w r j) where
  -- the columns before j, and those from j on
  abbrev front : ℕ
  front = j - 1

  abbrev last : ℕ
  last = columns_from w j

  abbrev T : List ℕ
  T = table_of n w rows words

  abbrev here : ℕ
  here = (r - 1) * (w * n)

  width : front + last ≡ w
  width = omega arith

  row_number : r - 1 < rows
  row_number = omega arith

  room : front * n + last * n ≤ w * n
  room = let e : (front + last) * n ≡ front * n + last * n = add-mul front last n in omega (arith, ap (λ (x : ℕ). x * n) width)

  row-bytes : part (w * n) here T ≡ bytes_of n w (row_at n w r words)
  unfolding row_at
  row-bytes = table-row n w rows words (r - 1) row_number

  last-bytes : (row : List ℕ) → part (last * n) (front * n) (bytes_of n w row) ≡ bytes_of n last row
  last-bytes row = ap (λ (x : ℕ). part (last * n) (front * n) (bytes_of n x row)) (sym width) ∙ bytes-last n front last row

  -- row r from column j on
  pub row_from_of : row_from n w r j T ≡ bytes_of n last (row_at n w r words)
  row_from_of =
      ap (λ (p : ℕ). part (last * n) p T) (cell_in_row n w r j)
      ∙ sym (part-part (last * n) (front * n) (w * n) here T room)
      ∙ ap (part (last * n) (front * n)) row-bytes ∙ last-bytes (row_at n w r words)

  -- T[r,j]
  pub entry_of : entry n w r j T ≡ tab n (byte_of n (row_at n w r words) (w - j))
  entry_of =
      let e : front * n + n ≤ w * n = column_in n {u = front} {columns = w} (omega arith) in
      let d : w - 1 - front ≡ w - j = omega arith in
      ap (λ (p : ℕ). part n p T) (cell_in_row n w r j)
      ∙ sym (part-part n (front * n) (w * n) here T e)
      ∙ ap (part n (front * n)) row-bytes ∙ bytes-column n w (row_at n w r words) front (omega arith)
      ∙ ap (λ (k : ℕ). tab n (byte_of n (row_at n w r words) k)) d

  module _ (new : List ℕ) (ln : length new ≡ row_words n w) (fits : rows * row_words n w ≤ length words)
      (beyond : (e s : ℕ) → last ≤ e → s < n → byte_of n new e s ≡ byte_of n (row_at n w r words) e s) where
    -- the row as bytes, with its last columns put
    row_put : put (last * n) (front * n) (bytes_of n last new) (bytes_of n w (row_at n w r words)) ≡ bytes_of n w new
    row_put =
        columns_ext n w _ _ (put-length (last * n) (front * n) X B lx inside ∙ bytes-length n w (row_at n w r words)) (bytes-length n w new)
        (λ u hu. at u hu ∙ sym (bytes-column n w new u hu))
      where
        X : List ℕ
        X = bytes_of n last new

        B : List ℕ
        B = bytes_of n w (row_at n w r words)

        lx : length X ≡ last * n
        lx = bytes-length n last new

        inside : front * n + last * n ≤ length B
        inside = omega (arith, room, bytes-length n w (row_at n w r words))

        at : (u : ℕ) → u < w → part n (u * n) (put (last * n) (front * n) X B) ≡ tab n (byte_of n new (w - 1 - u))
        at u hu = elim (dec_lt u front) [
          | yes l ↦
              part-before (last * n) (front * n) X B lx inside n (u * n) (column_in n l)
              ∙ bytes-column n w (row_at n w r words) u hu
              ∙ tab_ext n (λ s hs. sym (beyond (w - 1 - u) s (omega arith) hs))
          | no l ↦
              let v : ℕ = u - front in
              let c : u ≡ front + v = counted u front l in
              let hv : v < last = counted-lt front last w u v width c hu in
              let e : u * n ≡ front * n + v * n = ap (λ (x : ℕ). x * n) c ∙ add-mul front v n in
              let d : last - 1 - v ≡ w - 1 - u = counted_back front last w u v width c in
              ap (λ (p : ℕ). part n p (put (last * n) (front * n) X B)) e
              ∙ part_inside (last * n) (front * n) X B lx inside n (v * n) (column_in n hv)
              ∙ bytes-column n last new v hv ∙ ap (λ (k : ℕ). tab n (byte_of n new k)) d
        ]

    -- and so does the table
    pub table-from : table_of n w rows (put (row_words n w) ((r - 1) * row_words n w) new words) ≡ put_row n w r j (bytes_of n last new) T
    table-from =
        table-put n w rows new words (r - 1) row_number ln fits
        ∙ ap (λ (x : List ℕ). put (w * n) here x T) (sym row_put ∙ ap (put (last * n) (front * n) (bytes_of n last new)) (sym row-bytes))
        ∙ sym (put_inside (w * n) here (part (w * n) here T) T part_size inside (last * n) (front * n) (bytes_of n last new) room)
        ∙ ap₂ (λ (p : ℕ) (t : List ℕ). put (last * n) p (bytes_of n last new) t) (sym (cell_in_row n w r j)) (put-part (w * n) here T)
      where
        inside : here + w * n ≤ length T
        inside = omega (arith, table-length n w rows words, column_in (w * n) row_number)

        part_size : length (part (w * n) here T) ≡ w * n
        part_size = part_length (w * n) here T inside

-- ---- joined rows

-- taken from or added to, it is one in a binary field
pub signed_add : {f : ℕ} → Binary f → (minus : Bool) (a b : ℕ) → signed (field_of f) minus a b ≡ (field_of f).add a b
unfolding signed
signed_add B true a b = sub-add B a b
signed_add B false a b = refl

pub twice_back : {u columns : ℕ} → u < columns → columns - 1 - (columns - 1 - u) ≡ u
twice_back h = omega arith

module _ {f : ℕ} (B : Binary f) (minus : Bool) (n columns : ℕ) (ds factor other row new : List ℕ) (J : Joined (field_of f) n columns ds factor other row new) where
  -- the Product of column u
  abbrev added : ℕ → List ℕ
  added u = product (field_of f) (drop (u * pairs n) ds) factor (tab n (byte_of n other (columns - 1 - u)))

  share : (u : ℕ) → u < columns → (s : ℕ) → s < n → byte_of n new (columns - 1 - u) s ≡ signed (field_of f) minus (byte_of n row (columns - 1 - u) s) (get_or (added u) s 0)
  share u hu s hs =
      J.at (columns - 1 - u) s (omega arith) hs
      ∙ ap (λ (k : ℕ). (field_of f).add (byte_of n row (columns - 1 - u) s) (get_or (product (field_of f) (drop (k * pairs n) ds) factor (tab n (byte_of n other (columns - 1 - u)))) s 0)) (twice_back hu)
      ∙ sym (signed_add B minus _ _)

  turn : (u : ℕ) → u < columns → join_turn (field_of f) minus n ds factor (bytes_of n columns other) u (part n (u * n) (bytes_of n columns row)) ≡ tab n (λ s. signed (field_of f) minus (byte_of n row (columns - 1 - u) s) (get_or (added u) s 0))
  unfolding join_turn joined
  turn u hu =
      rw (bytes-column n columns row u hu, bytes-column n columns other u hu, tab-length n (byte_of n row (columns - 1 - u)))
      (tab_ext n (λ s hs. ap (λ (x : ℕ). signed (field_of f) minus x (get_or (added u) s 0)) (tab-at n (byte_of n row (columns - 1 - u)) s hs)))

  -- a row of words to which Products were joined is, as bytes, the join of 01
  pub joined_bytes : bytes_of n columns new ≡ join_row (field_of f) minus n columns ds factor (bytes_of n columns other) (bytes_of n columns row)
  unfolding join_row
  joined_bytes =
      columns_ext n columns _ _ (bytes-length n columns new) (over_columns-length n _ (join_keeps (field_of f) n minus ds factor (bytes_of n columns other)) columns _ (bytes-length n columns row))
      (λ u hu. bytes-column n columns new u hu ∙ tab_ext n (λ s hs. share u hu s hs) ∙ sym (turn u hu)
      ∙ sym (over_columns-at n _ (join_keeps (field_of f) n minus ds factor (bytes_of n columns other)) columns _ (bytes-length n columns row) u hu))
