-- A row of words that was joined, in the table: 01's join of two rows.
-- Assumes nothing.
use mathlib.Core.Path.{◌≡◌, sym, ap, ap₂, ◌∙◌}
use mathlib.Core.Bool.{true, false}
use Prim.Native.Nat.{ℕ, ◌+◌, ◌-◌, ◌*◌, ◌<◌, ◌≤◌}
use mathlib.Core.List.{List, ◌++◌}
use native.Mathlib.Omega.{arith}
use lib.ListN.{length, get_or, take, drop}
use Rattle.field.specs.Field.{field_of}
use Rattle.field.proofs.Fields.{field_of_lem, binary_of}
use Rattle.sharing.specs.Run.{pairs}
use Rattle.sharing.specs.Lists.{Below, joined}
use Rattle.table.specs.Layout.{cell, part, put, columns_from, row_from, put_row, Inside}
use Rattle.sharing.proofs.Loops.{run_ext}
use Rattle.sharing.proofs.Pairs.{tab_ext}
use Rattle.table.specs.Steps.{join_turn, join_row, join_rows, over_columns}
use Rattle.table.proofs.Parts.{part-lent, put-lent}
use Rattle.table.proofs.Elements.{part_below}
use Rattle.word.specs.Rows.{byte_of, words_of, bytes_of, Dealt, Prepared, Masked, Joined}
use Rattle.plane.specs.Code.Words.{JoinedWords}
use Rattle.plane.proofs.JoinLaw.{join_law}
use Rattle.word_table.specs.Table.{row_words, table_of, row_at, Told}
use Rattle.word_table.proofs.Standing.{bytes-at}
use Rattle.word_table.proofs.Entering.{row_from_of, table-from, joined_bytes, twice_back, signed_add}
use Rattle.word_table.proofs.Telling.{told-taken}

-- the entries of a table of elements are elements, as words too
elements : (f n w rows : ℕ) (words : List ℕ) {r j : ℕ} → Inside rows w r j → Below (field_of f).q (table_of n w rows words)
    → (e s : ℕ) → e < columns_from w j → s < n → byte_of n (row_at n w r words) e s < (field_of f).q
elements f n w rows words {r} {j} P small e s he hs =
    let last : ℕ = columns_from w j in
    let u : ℕ = last - 1 - e in
    let B : Below (field_of f).q (bytes_of n last (row_at n w r words)) =
    rw (row_from_of n w rows words P) at (part_below (field_of_lem f).ring.pos (last * n) (cell n w r j) (table_of n w rows words) small) in
    let x : get_or (bytes_of n last (row_at n w r words)) (u * n + s) 0 ≡ byte_of n (row_at n w r words) e s =
    bytes-at n last (row_at n w r words) u s (omega arith) hs ∙ ap (λ (k : ℕ). byte_of n (row_at n w r words) k s) (twice_back he) in
    rw x at (B.at (u * n + s))

module _ (f n w rows : ℕ) (words : List ℕ) {a b j : ℕ} (A : Inside rows w a j) (B : Inside rows w b j) (fits : rows * row_words n w ≤ length words)
    (small : Below (field_of f).q (table_of n w rows words)) where
  abbrev last : ℕ
  last = columns_from w j

  -- by what the callees left
  pub joined-table : (bits : ℕ) (ds factor masks other z new : List ℕ) → length new ≡ row_words n w → length factor ≡ n → Told f factor bits
      → Masked bits n factor masks → Prepared bits n last (row_at n w b words) other → Dealt (field_of f).q (pairs n) last ds z
      → JoinedWords bits n (words_of last) masks other z (row_at n w a words) new
      → table_of n w rows (put (row_words n w) ((a - 1) * row_words n w) new words) ≡ join_rows (field_of f) false n w a b j factor ds (table_of n w rows words)
  unfolding join_rows
  joined-table bits ds factor masks other z new ln lf told M O D W =
      let J : Joined (field_of f) n last ds factor (row_at n w b words) (row_at n w a words) new =
      join_law (binary_of f) bits n last ds factor masks (row_at n w b words) other z (row_at n w a words) new W D O M lf
      (elements f n w rows words A small) (elements f n w rows words B small) (λ i h. told-taken told i) in
      table-from n w rows words A new ln fits J.beyond
      ∙ ap (λ (x : List ℕ). put_row n w a j x (table_of n w rows words))
      (joined_bytes (binary_of f) false n last ds factor (row_at n w b words) (row_at n w a words) new J
      ∙ ap₂ (join_row (field_of f) false n last ds factor) (sym (row_from_of n w rows words B)) (sym (row_from_of n w rows words A)))

  -- and by what they were lent
  pub joined-lent : (bits size : ℕ) (ds factor masks other z new : List ℕ) → size ≡ row_words n w → length new ≡ size → length factor ≡ n → Told f factor bits
      → Masked bits n factor masks → Prepared bits n last (take ((b - 1) * size + size - (b - 1) * size) (drop ((b - 1) * size) words)) other → Dealt (field_of f).q (pairs n) last ds z
      → JoinedWords bits n (words_of last) masks other z (take ((a - 1) * size + size - (a - 1) * size) (drop ((a - 1) * size) words)) new
      → table_of n w rows (take ((a - 1) * size) words ++ (new ++ drop ((a - 1) * size + size - (a - 1) * size) (drop ((a - 1) * size) words)))
      ≡ join_rows (field_of f) false n w a b j factor ds (table_of n w rows words)
  unfolding row_at
  joined-lent bits size ds factor masks other z new e ln lf told M O D W =
      rw (put-lent size ((a - 1) * size) new words)
      (rw e (joined-table bits ds factor masks other z new (ln ∙ e) lf told M
      (rw e at (rw (part-lent size ((b - 1) * size) words) at O)) D (rw e at (rw (part-lent size ((a - 1) * size) words) at W))))

-- taken from or added to, a row of a binary field is the same
pub join_rows_sign : (f n w a b j : ℕ) (factor ds t : List ℕ)
    → join_rows (field_of f) false n w a b j factor ds t ≡ join_rows (field_of f) true n w a b j factor ds t
unfolding join_rows join_row over_columns join_turn joined
join_rows_sign f n w a b j factor ds t =
    ap (λ (x : List ℕ). put_row n w a j x t)
    (run_ext _ _ (columns_from w j)
    (λ u h row. ap (λ (x : List ℕ). put n (u * n) x row)
    (tab_ext (length (part n (u * n) row)) (λ i l. signed_add (binary_of f) false _ _ ∙ sym (signed_add (binary_of f) true _ _))))
    (row_from n w a j t))
