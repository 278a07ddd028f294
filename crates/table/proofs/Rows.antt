-- A row of Products that is added to, or taken from, another row is the join of 01, column by column: what joins a share is reduced by the
-- field's sum.
-- Assumes nothing.
use mathlib.Core.Path.{◌≡◌, sym, ap, ◌∙◌}
use mathlib.Core.Bool.{Bool, true, false}
use Prim.Native.Nat.{ℕ, ◌+◌, ◌*◌, ◌/◌, ◌%◌, ◌<◌, ◌≤◌}
use mathlib.Core.List.{List, ◌++◌}
use native.Mathlib.Omega.{arith}
use native.Mathlib.Decide.{dec_lt}
use native.Mathlib.Nat.{mod-lt, div-add-mod', mul-le-mul, mul-le-mul_right}
use lib.ListN.{length, get_or, take, drop}
use lib.Seq.{get_or-take}
use Rattle.field.specs.Field.{Ring, field_of}
use Rattle.field.proofs.Fields.{field_of_lem}
use Rattle.sharing.specs.Run.{tab, pairs}
use Rattle.sharing.specs.Rules.{product}
use Rattle.sharing.specs.Lists.{joined}
use Rattle.sharing.proofs.Loops.{run_ext}
use Rattle.sharing.proofs.Pairs.{tab-at, tab-length, tab_ext, tab_list}
use Rattle.sharing.proofs.Rings.{add_right, neg-mod}
use Rattle.sharing.specs.Bounds.{most_width, most_row_bytes}
use Rattle.row.specs.Rows.{Products}
use Rattle.table.specs.Layout.{part, put}
use Rattle.table.specs.Steps.{signed, over_columns, join_turn, join_row}
use Rattle.table.proofs.Parts.{part_at, part_length, part-first}
use Rattle.table.proofs.Cells.{column_in}
use Rattle.table.proofs.Columns.{Keeps, over_columns-length, over_columns-at}

pub bytes_small : {n columns : ℕ} → n ≤ 4 → columns ≤ most_width → columns * n ≤ most_row_bytes
bytes_small {n} {columns} h g = mul-le-mul {n₁ = columns} {m₁ = n} {n₂ = most_width} {m₂ = 4} g h

-- ---- the sum takes a number modulo q

module _ (f : ℕ) where
  R : Ring (field_of f)
  R = (field_of_lem f).ring

  signed_same : (minus : Bool) (a b c : ℕ) → b % (field_of f).q ≡ c % (field_of f).q → signed (field_of f) minus a b ≡ signed (field_of f) minus a c
  unfolding signed
  signed_same true a b c e =
      ap ((field_of f).add a) (sym (neg-mod (field_of f) R b) ∙ ap (field_of f).neg e ∙ neg-mod (field_of f) R c)
  signed_same false a b c e = sym (add_right (field_of f) R a b) ∙ ap ((field_of f).add a) e ∙ add_right (field_of f) R a c

  -- ---- the row

  module _ (minus : Bool) (n columns : ℕ) (ds factor other out row : List ℕ) (few : 1 ≤ n) (lr : length row ≡ columns * n)
      (p : Products (field_of f) n columns ds factor other out)
    where
      turn : ℕ → List ℕ → List ℕ
      turn = join_turn (field_of f) minus n ds factor other

      keeps : Keeps n turn
      unfolding turn join_turn joined
      keeps = record { shares = λ u e l. tab-length (length e) _ ∙ l }

      -- share s of column u
      share : (u s : ℕ) → u < columns → s < n
          → get_or (join_row (field_of f) minus n columns ds factor other row) (u * n + s) 0
          ≡ signed (field_of f) minus (get_or row (u * n + s) 0) (get_or out (u * n + s) 0)
      unfolding join_row turn join_turn joined part
      share u s hu hs =
          let inside : u * n + n ≤ length row = omega (arith, column_in n hu) in
          let z : ℕ = get_or (product (field_of f) (drop (u * pairs n) ds) factor (part n (u * n) other)) s 0 in
          sym (part_at n (u * n) (over_columns n turn columns row) s hs)
          ∙ ap (λ (e : List ℕ). get_or e s 0) (over_columns-at n turn keeps columns row lr u hu)
          ∙ tab-at (length (part n (u * n) row)) _ s (omega (arith, part_length n (u * n) row inside))
          ∙ ap (λ (y : ℕ). signed (field_of f) minus y z) (part_at n (u * n) row s hs)
          ∙ sym (signed_same minus (get_or row (u * n + s) 0) (get_or out (u * n + s) 0) z (p.at u s hu hs))

      at_byte : (o : ℕ) → o < columns * n
          → get_or (join_row (field_of f) minus n columns ds factor other row) o 0 ≡ signed (field_of f) minus (get_or row o 0) (get_or out o 0)
      at_byte o h =
          let e : o / n * n + o % n ≡ o = div-add-mod' o n in
          let u : o / n < columns = elim (dec_lt (o / n) columns) [
            | yes l ↦ l
            | no l ↦ let g : columns * n ≤ o / n * n = mul-le-mul_right n (omega arith) in absurd (omega arith)
          ] in
          ap (λ (y : ℕ). get_or (join_row (field_of f) minus n columns ds factor other row) y 0) (sym e)
          ∙ share (o / n) (o % n) u (mod-lt o few)
          ∙ ap (λ (y : ℕ). signed (field_of f) minus (get_or row y 0) (get_or out y 0)) e

      pub products_join : joined (signed (field_of f) minus) row (take (columns * n) out) ≡ join_row (field_of f) minus n columns ds factor other row
      unfolding joined join_row over_columns turn join_turn
      products_join =
          tab_ext (length row)
          (λ o h. ap (signed (field_of f) minus (get_or row o 0)) (get_or-take (columns * n) out o 0 (omega arith)) ∙ sym (at_byte o (omega arith)))
          ∙ ap (λ (k : ℕ). tab k (λ o. get_or (join_row (field_of f) minus n columns ds factor other row) o 0)) (lr ∙ sym (over_columns-length n turn keeps columns row lr))
          ∙ tab_list (join_row (field_of f) minus n columns ds factor other row)

-- ---- what is behind the columns of the other row does not matter

pub join_row-front : (f n columns : ℕ) (minus : Bool) (ds factor a z row : List ℕ) → length a ≡ columns * n
    → join_row (field_of f) minus n columns ds factor (a ++ z) row ≡ join_row (field_of f) minus n columns ds factor a row
unfolding join_row over_columns join_turn
join_row-front f n columns minus ds factor a z row l =
    run_ext _ _ columns
    (λ u h s.
    ap (λ (y : List ℕ). put n (u * n) (joined (signed (field_of f) minus) (part n (u * n) s) (product (field_of f) (drop (u * pairs n) ds) factor y)) s)
    (part-first n (u * n) a z (omega (arith, column_in n h))))
    row
