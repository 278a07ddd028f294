-- What each step does to the values, whatever the shares and the draws are. A step that leaves an entry its shares (Entries.antt) leaves it
-- its value.
-- Assumes nothing.
use mathlib.Core.Path.{◌≡◌, sym, ap, ap₂, ◌∙◌, subst}
use mathlib.Core.Bool.{Bool, true, false}
use Prim.Native.Nat.{ℕ, suc, ◌+◌, ◌-◌, ◌*◌, ◌%◌, ◌<◌, ◌≤◌}
use mathlib.Core.List.{List}
use native.Mathlib.Omega.{arith}
use native.Mathlib.Decide.{ℕ_discrete}
use native.Mathlib.Nat.{mod-eq_of_lt}
use lib.ListN.{length, get_or, take, drop}
use lib.Seq.{take-suc, take_all}
use Rattle.field.specs.Field.{Ops, Ring, Field, sub, inv, field_of}
use Rattle.field.proofs.Fields.{field_of_lem}
use Rattle.sharing.specs.Rules.{sum, draw_at, scaled, blinded_value, factors, inversion_draws}
use Rattle.sharing.specs.Lists.{joined, product_all}
use Rattle.sharing.proofs.Rings.{mul-zero}
use Rattle.sharing.proofs.Pairs.{run_holds}
use Rattle.sharing.proofs.Lengths.{product-length, scaled-length, factors-length}
use Rattle.sharing.proofs.Sums.{sum_lt, sum-refresh, sum-scaled, sum-product, sum-joined-add, sum-joined-sub, opening-value}
use Rattle.flag.proofs.Flag.{sum-zero_flag}
use Rattle.sharing.proofs.Inverting.{blinds, product_all_snoc, blinded_value_is, blinded_value-nonzero, factors_inverse}
use Rattle.flag.proofs.Lengths.{zero_flag-length}
use Rattle.flag.specs.Flag.{zero_flag, flag_of}
use Rattle.table.specs.Layout.{table_bytes, part, entry, columns_from, row_from, Inside}
use Rattle.table.specs.Steps.{signed, join_rows, mix, check, scale_turn, scale_row, factor_turn, scale_all, scale, clear, unknown_at, lift}
use Rattle.table.specs.Values.{value}
use Rattle.table.proofs.Cells.{in_row, entry_length, row_from-length, entry_row, put_row_same}
use Rattle.table.proofs.Columns.{over_columns-at}
use Rattle.table.proofs.Lengths.{scale_keeps, scale_row-length, scale_all-length}
use Rattle.table.proofs.Entries.{join_rows-at, lift-at}

-- what holds of the columns from j on by their distance from j holds of each
by_distance : (w j : ℕ) (P : ℕ → Type 0) → ((u : ℕ) → u < columns_from w j → P (j + u)) → (c : ℕ) → j ≤ c → c ≤ w → P c
by_distance w j P h c g l =
    let e : j + (c - j) ≡ c = omega arith in subst P e (h (c - j) (omega arith))

pub kept-value : (F : Ops) (n w : ℕ) (t t' : List ℕ) (s d : ℕ) → entry n w s d t' ≡ entry n w s d t → value F n w t' s d ≡ value F n w t s d
unfolding value
kept-value F n w t t' s d e = ap (sum F) e

module _ (F : Ops) (R : Ring F) where
  pub value-lt : (n w : ℕ) (t : List ℕ) (r c : ℕ) → value F n w t r c < F.q
  unfolding value
  value-lt n w t r c = sum_lt F R (entry n w r c t)

  sum-joined : (minus : Bool) (s v : List ℕ) → length v ≡ length s → sum F (joined (signed F minus) s v) ≡ signed F minus (sum F s) (sum F v)
  unfolding signed
  sum-joined true s v e = sum-joined-sub F R s v e
  sum-joined false s v e = sum-joined-add F R s v e

  -- row a += or -= Product(factor, row b)
  pub join_rows-value : (n rows w : ℕ) (t : List ℕ) → length t ≡ table_bytes n rows w → (minus : Bool) {a b j : ℕ} → Inside rows w a j
      → Inside rows w b j → (factor ds : List ℕ) → length factor ≡ n → (c : ℕ) → j ≤ c → c ≤ w
      → value F n w (join_rows F minus n w a b j factor ds t) a c
      ≡ signed F minus (value F n w t a c) (F.mul (sum F factor) (value F n w t b c))
  unfolding value
  join_rows-value n rows w t lt minus {a} {b} {j} A B factor ds lf =
      by_distance w j
      (λ (c : ℕ). sum F (entry n w a c (join_rows F minus n w a b j factor ds t))
      ≡ signed F minus (sum F (entry n w a c t)) (F.mul (sum F factor) (sum F (entry n w b c t))))
      (λ u h.
      let ea : List ℕ = entry n w a (j + u) t in
      let eb : List ℕ = entry n w b (j + u) t in
      let la : length ea ≡ n = entry_length n rows w t lt (in_row A (j + u) (omega arith) (omega arith)) in
      let lb : length eb ≡ n = entry_length n rows w t lt (in_row B (j + u) (omega arith) (omega arith)) in
      ap (sum F) (join_rows-at n rows w t lt F minus A b factor ds B u h)
      ∙ sum-joined minus ea _ (product-length F _ factor eb ∙ lf ∙ sym la)
      ∙ ap (signed F minus (sum F ea)) (sum-product F R _ factor eb (lb ∙ sym lf)))

-- ---- Scale's factors, one after the other

module _ (F : Ops) (L : Field F) (n columns : ℕ) (row : List ℕ) (lr : length row ≡ columns * n) (fs ds : List ℕ) (lf : length fs ≡ n) where
  -- after the first i factors
  record Scaled (i : ℕ) (s : List ℕ) : Type 0 where
    size : length s ≡ columns * n
    values : (u : ℕ) → u < columns → sum F (part n (u * n) s) ≡ F.mul (product_all F (take i fs)) (sum F (part n (u * n) row))

  one_more : (i : ℕ) → i < n → (s : List ℕ) → Scaled i s → Scaled (suc i) (factor_turn F n columns fs ds i s)
  unfolding factor_turn scale_row scale_turn
  one_more i h s S =
      let z : ℕ = get_or fs i 0 in
      let d : List ℕ = drop (i * (columns * (n - 1))) ds in
      record {
        size = scale_row-length F n columns s S.size z d;
        values = λ u g.
            let e : List ℕ = part n (u * n) s in
            let v : ℕ = sum F (part n (u * n) row) in
            ap (sum F) (over_columns-at n _ (scale_keeps F n z d) columns s S.size u g)
            ∙ sum-refresh F L.ring _ (scaled F z e)
            ∙ sum-scaled F L.ring z e
            ∙ ap (F.mul z) (S.values u g)
            ∙ sym (L.ring.mul_assoc z (product_all F (take i fs)) v)
            ∙ ap (λ (x : ℕ). F.mul x v)
            (sym (ap (product_all F) (take-suc fs i 0 (omega arith)) ∙ product_all_snoc F L (take i fs) z));
      }

  scaled-all : Scaled n (scale_all F n columns fs ds row)
  unfolding scale_all product_all
  scaled-all =
      run_holds (λ (i : ℕ) (s : List ℕ). Scaled i s) (factor_turn F n columns fs ds) n one_more row
      (record {
        size = lr;
        values = λ u g.
            let v : ℕ = sum F (part n (u * n) row) in
            sym (L.ring.mul_comm 1 v ∙ L.mul-one v ∙ mod-eq_of_lt (sum_lt F L.ring (part n (u * n) row)));
      })

  pub scale_all-value : (u : ℕ) → u < columns
      → sum F (part n (u * n) (scale_all F n columns fs ds row)) ≡ F.mul (product_all F fs) (sum F (part n (u * n) row))
  scale_all-value u h =
      scaled-all.values u h
      ∙ ap (λ (l : List ℕ). F.mul (product_all F l) (sum F (part n (u * n) row))) (take_all n fs (omega arith))

-- ---- the steps

module _ (f n rows w : ℕ) (t : List ℕ) (lt : length t ≡ table_bytes n rows w) where
  -- the field, and the values before the step
  abbrev F : Ops
  F = field_of f

  abbrev L : Field F
  L = field_of_lem f

  abbrev val : ℕ → ℕ → ℕ
  val = value F n w t

  pub mix-value : 0 < n → {r k j : ℕ} → Inside rows w r j → Inside rows w k j → (ds : List ℕ) (c : ℕ) → j ≤ c → c ≤ w
      → value F n w (mix f n w r j k ds t) r c ≡ F.add (val r c) (F.mul (flag_of (val r j)) (val k c))
  unfolding mix signed value
  mix-value some {r} {k} {j} P Q ds c g l =
      let e : List ℕ = entry n w r j t in
      let le : length e ≡ n = entry_length n rows w t lt P in
      join_rows-value F L.ring n rows w t lt false P Q _ _ (zero_flag-length f ds e ∙ le) c g l
      ∙ ap (λ (x : ℕ). F.add (val r c) (F.mul x (val k c))) (sum-zero_flag f ds e (omega arith))

  pub check-value : 0 < n → {r j : ℕ} → Inside rows w r j → (ds : List ℕ) → check f n w r j ds t ≡ flag_of (val r j)
  unfolding check value
  check-value some {r} {j} P ds =
      let e : List ℕ = entry n w r j t in
      let le : length e ≡ n = entry_length n rows w t lt P in
      opening-value F L.ring _ (zero_flag f ds e) ∙ sum-zero_flag f ds e (omega arith)

  pub clear-value : {k r j : ℕ} → Inside rows w k j → Inside rows w r j → (ds : List ℕ) (c : ℕ) → j ≤ c → c ≤ w
      → value F n w (clear f n w r j k ds t) k c ≡ sub F (val k c) (F.mul (val k j) (val r c))
  unfolding clear signed value
  clear-value {k} {r} {j} P Q ds =
      join_rows-value F L.ring n rows w t lt true P Q _ ds (entry_length n rows w t lt P)

  pub opens_value : (r : ℕ) (ds : List ℕ) → unknown_at f n w r ds t ≡ val r w
  unfolding unknown_at value
  opens_value r ds = opening-value F L.ring ds (entry n w r w t)

  pub lift-value : {r j : ℕ} → Inside rows w r j → (x : ℕ) {s : ℕ} → Inside rows w s w → s < r
      → value F n w (lift f n w r j x t) s w ≡ sub F (val s w) (F.mul x (val s j))
  unfolding value
  lift-value {j = j} P x {s} Q h =
      let e : List ℕ = entry n w s w t in
      let v : List ℕ = entry n w s j t in
      let le : length e ≡ n = entry_length n rows w t lt Q in
      let lv : length v ≡ n = entry_length n rows w t lt (in_row Q j P.column_low P.column_high) in
      ap (sum F) (lift-at n rows w t lt f P x Q h)
      ∙ sum-joined-sub F L.ring e _ (scaled-length F x v ∙ lv ∙ sym le)
      ∙ ap (sub F (sum F e)) (sum-scaled F L.ring x v)

  -- the product that an Inversion opens is 0 where the pivot's value is
  pub pivot_zero : (r j : ℕ) (nz ds : List ℕ) → val r j ≡ 0 → blinded_value F nz ds (entry n w r j t) ≡ 0
  unfolding value
  pivot_zero r j nz ds e =
      let b : ℕ = blinds F nz (length (entry n w r j t) - 1) in
      blinded_value_is F L nz ds (entry n w r j t) ∙ ap (F.mul b) e ∙ mul-zero F L.ring b

  -- no draw of the nonzero tape is 0
  module _ {r j : ℕ} (P : Inside rows w r j) (nz ds : List ℕ) (nonzero : (k : ℕ) → k < n - 1 → draw_at F nz k ≡ 0 → ⊥) where
    pivot : List ℕ
    pivot = entry n w r j t

    pivot_length : length pivot ≡ n
    unfolding pivot
    pivot_length = entry_length n rows w t lt P

    drawn : (k : ℕ) → k < length pivot - 1 → draw_at F nz k ≡ 0 → ⊥
    drawn k h = nonzero k (omega (arith, pivot_length))

    pub scale-value : 0 < n → (c : ℕ) → j ≤ c → c ≤ w
        → value F n w (scale f n w r j nz ds t) r c ≡ F.mul (inv F (val r j)) (val r c)
    unfolding scale value pivot
    scale-value some =
        let fs : List ℕ = factors F nz ds pivot in
        let d : List ℕ = drop (inversion_draws n) ds in
        let lr : length (row_from n w r j t) ≡ columns_from w j * n = row_from-length n rows w t lt P in
        let lp : length pivot ≡ n = pivot_length in
        by_distance w j
        (λ (c : ℕ). sum F (entry n w r c (scale f n w r j nz ds t)) ≡ F.mul (inv F (sum F pivot)) (sum F (entry n w r c t)))
        (λ u h.
        ap (sum F) (put_row_same n rows w t lt P _ (scale_all-length F n _ _ lr fs d) u h)
        ∙ scale_all-value F L n _ _ lr fs d (factors-length F nz ds pivot (omega arith) ∙ lp) u h
        ∙ ap₂ F.mul (factors_inverse F L nz ds pivot drawn) (ap (sum F) (entry_row n rows w t lt P u h)))

    -- the product that an Inversion opens is 0 only where the pivot's value is
    pub zero_pivot_lem : blinded_value F nz ds (entry n w r j t) ≡ 0 → val r j ≡ 0
    unfolding value pivot
    zero_pivot_lem e = elim (ℕ_discrete (sum F pivot) 0) [
      | yes z ↦ z
      | no m ↦
          absurd
          (blinded_value-nonzero F L nz ds pivot drawn m
          (ap (λ (x : ℕ). x % F.q) e ∙ mod-eq_of_lt L.ring.pos))
    ]
