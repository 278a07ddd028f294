-- A table of elements stays one, step by step. Dealing makes one of any table, since it stores to every byte.
-- Assumes nothing.
use mathlib.Core.Path.{◌≡◌, sym, ap, ◌∙◌}
use mathlib.Core.Bool.{Bool, true, false}
use Prim.Native.Nat.{ℕ, ◌+◌, ◌-◌, ◌*◌, ◌/◌, ◌%◌, ◌<◌, ◌≤◌}
use mathlib.Core.List.{List}
use native.Mathlib.Omega.{arith}
use native.Mathlib.Decide.{dec_lt}
use native.Mathlib.Nat.{mod-lt, div-add-mod', mul-le-mul_right}
use lib.ListN.{length, get_or, drop, get_or-eq_default}
use Rattle.field.specs.Field.{Ops, Ring, sub, field_of}
use Rattle.field.proofs.Fields.{field_of_lem}
use Rattle.sharing.specs.Rules.{scaled}
use Rattle.sharing.specs.Lists.{Below}
use Rattle.sharing.proofs.Elements.{append_below, take_below, drop_below, run-below, refresh_below, scaled_below, joined_below}
use Rattle.table.specs.Layout.{part, put, entry, columns_from, row_from}
use Rattle.table.specs.Steps.{column_turn, over_columns, signed, join_turn, join_row, join_rows, mix, scale_turn, scale_row, factor_turn, scale_all, scale, clear, lift_turn, lift}
use Rattle.table.proofs.Parts.{part_at}
use Rattle.table.proofs.Columns.{Keeps, over_columns-length, over_columns-at}

module _ {q : ℕ} (pos : 0 < q) where
  pub part_below : (k p : ℕ) (t : List ℕ) → Below q t → Below q (part k p t)
  unfolding part
  part_below k p t g = take_below pos k (drop p t) (drop_below p t g)

  pub put_below : (k p : ℕ) (s t : List ℕ) → Below q s → Below q t → Below q (put k p s t)
  unfolding put
  put_below k p s t g h = append_below _ (take_below pos p t h) (append_below s g (drop_below k (drop p t) (drop_below p t h)))

  -- columns that stay elements
  columns_below : (n : ℕ) (turn : ℕ → List ℕ → List ℕ) → ((u : ℕ) (e : List ℕ) → Below q e → Below q (turn u e)) → (columns : ℕ) (row : List ℕ)
      → Below q row → Below q (over_columns n turn columns row)
  unfolding over_columns
  columns_below n turn h columns row g =
      run-below (column_turn n turn) (λ u s b. put_below n (u * n) _ s (h u _ (part_below n (u * n) s b)) b) columns row g

  -- columns that become elements, whatever they were
  pub columns_anew : (n : ℕ) → 1 ≤ n → (turn : ℕ → List ℕ → List ℕ) → Keeps n turn → ((u : ℕ) (e : List ℕ) → Below q (turn u e))
      → (columns : ℕ) (row : List ℕ) → length row ≡ columns * n → Below q (over_columns n turn columns row)
  columns_anew n few turn K h columns row lr = record { at = at }
    where
      all : List ℕ
      all = over_columns n turn columns row

      at : (i : ℕ) → get_or all i 0 < q
      at i = elim (dec_lt (i / n) columns) [
        | yes l ↦
            let e : get_or all i 0 ≡ get_or (turn (i / n) (part n (i / n * n) row)) (i % n) 0 =
            ap (λ (y : ℕ). get_or all y 0) (sym (div-add-mod' i n)) ∙ sym (part_at n (i / n * n) all (i % n) (mod-lt i few))
            ∙ ap (λ (y : List ℕ). get_or y (i % n) 0) (over_columns-at n turn K columns row lr (i / n) l) in
            rw e ((h (i / n) _).at (i % n))
        | no l ↦
            let g : columns * n ≤ i / n * n = mul-le-mul_right n (omega arith) in
            rw (get_or-eq_default all 0 {n = i} (omega (arith, over_columns-length n turn K columns row lr, div-add-mod' i n))) pos
      ]

-- ---- the steps

signed_lt : (F : Ops) (R : Ring F) (minus : Bool) (a b : ℕ) → signed F minus a b < F.q
unfolding signed
signed_lt F R true a b = R.add_lt a (F.neg b)
signed_lt F R false a b = R.add_lt a b

module _ (F : Ops) (R : Ring F) (n : ℕ) where
  join_row_below : (minus : Bool) (columns : ℕ) (ds factor other row : List ℕ) → Below F.q row
      → Below F.q (join_row F minus n columns ds factor other row)
  unfolding join_row join_turn
  join_row_below minus columns ds factor other row g =
      columns_below R.pos n _ (λ u e b. joined_below F R (signed F minus) (signed_lt F R minus) e _) columns row g

  join_rows_below : (minus : Bool) (w a b j : ℕ) (factor ds t : List ℕ) → Below F.q t → Below F.q (join_rows F minus n w a b j factor ds t)
  unfolding join_rows
  join_rows_below minus w a b j factor ds t g =
      put_below R.pos _ _ _ t (join_row_below minus _ ds factor (row_from n w b j t) _ (part_below R.pos _ _ t g)) g

  scale_all_below : (columns : ℕ) (fs ds row : List ℕ) → Below F.q row → Below F.q (scale_all F n columns fs ds row)
  unfolding scale_all factor_turn scale_row scale_turn
  scale_all_below columns fs ds row g =
      run-below (factor_turn F n columns fs ds)
      (λ i s b. columns_below R.pos n _ (λ u e c. refresh_below F R _ (scaled F _ e) (scaled_below F R _ e)) columns s b) n row g

module _ (f n w : ℕ) where
  abbrev q : ℕ
  q = (field_of f).q

  R : Ring (field_of f)
  R = (field_of_lem f).ring

  pub mix_below : (r j k : ℕ) (ds t : List ℕ) → Below q t → Below q (mix f n w r j k ds t)
  unfolding mix
  mix_below r j k ds t g = join_rows_below (field_of f) R n false w r k j _ _ t g

  pub clear_below_lem : (r j k : ℕ) (ds t : List ℕ) → Below q t → Below q (clear f n w r j k ds t)
  unfolding clear
  clear_below_lem r j k ds t g = join_rows_below (field_of f) R n true w k r j _ ds t g

  pub scale_below : (r j : ℕ) (nz ds t : List ℕ) → Below q t → Below q (scale f n w r j nz ds t)
  unfolding scale
  scale_below r j nz ds t g =
      put_below R.pos _ _ _ t (scale_all_below (field_of f) R n (columns_from w j) _ _ _ (part_below R.pos _ _ t g)) g

  pub lift_below : (r j x : ℕ) (t : List ℕ) → Below q t → Below q (lift f n w r j x t)
  unfolding lift lift_turn
  lift_below r j x t g =
      run-below (lift_turn (field_of f) n w j x)
      (λ i s b. put_below R.pos n _ _ s (joined_below (field_of f) R (sub (field_of f)) (λ a c. R.add_lt a ((field_of f).neg c)) (entry n w (i + 1) w s) _) b)
      (r - 1) t g
