-- Each step reads its own draws and no others, as many as the paper says: two tapes that agree on so many draws give the same result.
-- Assumes nothing.
use mathlib.Core.Path.{◌≡◌, refl, ap, ◌∙◌}
use mathlib.Core.Bool.{Bool, true, false}
use Prim.Native.Nat.{ℕ, ◌+◌, ◌-◌, ◌*◌, ◌<◌}
use mathlib.Core.List.{List}
use native.Mathlib.Omega.{arith}
use native.Mathlib.Nat.{le_refl, mul_assoc, mul_comm}
use lib.ListN.{length, drop}
use Rattle.field.specs.Field.{Ops, field_of}
use Rattle.sharing.specs.Run.{pairs}
use Rattle.sharing.specs.Rules.{inversion_draws, opening, scaled}
use Rattle.sharing.specs.Lists.{SameDraws, joined}
use Rattle.sharing.proofs.Loops.{run_ext}
use Rattle.sharing.proofs.Lengths.{scaled-length}
use Rattle.sharing.proofs.Draws.{same_fewer, same_drop, same_turn, refresh-draws, product-draws, opening-draws, factors-draws}
use Rattle.flag.proofs.Draws.{zero_flag-draws}
use Rattle.flag.proofs.Lengths.{zero_flag-length}
use Rattle.flag.specs.Flag.{flag_draws, zero_flag}
use Rattle.table.specs.Layout.{table_bytes, part, put, entry, columns_from, row_from, put_row, Inside}
use Rattle.table.specs.Steps.{column_turn, over_columns, signed, join_turn, join_row, join_rows, mix, check, scale_turn, scale_row, factor_turn, scale_all, scale, clear, unknown_at}
use Rattle.table.specs.Costs.{mix_cost, check_cost, scale_cost, scale_nonzero, clear_cost, open_cost}
use Rattle.table.proofs.Parts.{part_most}
use Rattle.table.proofs.Cells.{entry_length}

-- ---- the paper's numbers are those of the definitions

pub mix_cost_is : (f n columns : ℕ) → mix_cost f n columns ≡ flag_draws f n + columns * pairs n
unfolding mix_cost
mix_cost_is f n columns = refl

pub check_cost_is : (f n : ℕ) → check_cost f n ≡ flag_draws f n + pairs n
unfolding check_cost
check_cost_is f n = refl

pub scale_cost_is : (n columns : ℕ) → scale_cost n columns ≡ inversion_draws n + n * (columns * (n - 1))
unfolding scale_cost
scale_cost_is n columns =
    ap (λ (x : ℕ). inversion_draws n + x) (mul_assoc n (n - 1) columns ∙ ap (λ (x : ℕ). n * x) (mul_comm (n - 1) columns))

-- ---- a row

-- turns that agree on n bytes from where their column stands
columns-draws : (n columns : ℕ) (turn other : ℕ → List ℕ → List ℕ)
    → ((u : ℕ) → u < columns → (s : List ℕ) → turn u (part n (u * n) s) ≡ other u (part n (u * n) s))
    → (row : List ℕ) → over_columns n turn columns row ≡ over_columns n other columns row
unfolding over_columns
columns-draws n columns turn other h row =
    run_ext (column_turn n turn) (column_turn n other) columns (λ u l s. ap (λ (e : List ℕ). put n (u * n) e s) (h u l s)) row

module _ (F : Ops) (n columns : ℕ) {ds es : List ℕ} where
  pub join_row-draws : (minus : Bool) (factor other row : List ℕ) → length factor ≡ n → SameDraws F (columns * pairs n) ds es
      → join_row F minus n columns ds factor other row ≡ join_row F minus n columns es factor other row
  unfolding join_row join_turn
  join_row-draws minus factor other row lf d =
      columns-draws n columns _ _
      (λ u h s. ap (joined (signed F minus) (part n (u * n) s)) (product-draws F factor _ (rw lf (same_turn F u (pairs n) h d)))) row

  pub scale_row-draws : (z : ℕ) (row : List ℕ) → SameDraws F (columns * (n - 1)) ds es
      → scale_row F n columns z ds row ≡ scale_row F n columns z es row
  unfolding scale_row scale_turn
  scale_row-draws z row d =
      columns-draws n columns _ _
      (λ u h s.
      let l : length (scaled F z (part n (u * n) s)) ≡ length (part n (u * n) s) = scaled-length F z (part n (u * n) s) in
      refresh-draws F (scaled F z (part n (u * n) s))
      (same_fewer F (omega (arith, part_most n (u * n) s)) (same_turn F u (n - 1) h d)))
      row

pub scale_all-draws : (F : Ops) (n columns : ℕ) (fs row : List ℕ) {ds es : List ℕ} → SameDraws F (n * (columns * (n - 1))) ds es
    → scale_all F n columns fs ds row ≡ scale_all F n columns fs es row
unfolding scale_all factor_turn
scale_all-draws F n columns fs row {ds} {es} d =
    run_ext _ _ n (λ i h s. scale_row-draws F n columns _ s (same_turn F i (columns * (n - 1)) h d)) row

-- ---- the steps

join_rows-draws : (F : Ops) (minus : Bool) (n w a b j : ℕ) (factor t : List ℕ) {ds es : List ℕ} → length factor ≡ n
    → SameDraws F (columns_from w j * pairs n) ds es → join_rows F minus n w a b j factor ds t ≡ join_rows F minus n w a b j factor es t
unfolding join_rows
join_rows-draws F minus n w a b j factor t lf d =
    ap (λ (row : List ℕ). put_row n w a j row t) (join_row-draws F n _ minus factor _ _ lf d)

module _ (f n rows w : ℕ) (t : List ℕ) (lt : length t ≡ table_bytes n rows w) {r j : ℕ} (P : Inside rows w r j) where
  abbrev F : Ops
  F = field_of f

  pivot_length : length (entry n w r j t) ≡ n
  pivot_length = entry_length n rows w t lt P

  flag_length : (ds : List ℕ) → length (zero_flag f ds (entry n w r j t)) ≡ n
  flag_length ds = zero_flag-length f ds (entry n w r j t) ∙ pivot_length

  -- Mix and Check: the flag of the pivot reads the first of their draws
  flag_draws_lem : {ds es : List ℕ} (more : ℕ) → SameDraws F (flag_draws f n + more) ds es
      → zero_flag f ds (entry n w r j t) ≡ zero_flag f es (entry n w r j t)
  flag_draws_lem more d = zero_flag-draws f (entry n w r j t) (rw pivot_length (same_fewer F (omega arith) d))

  module _ {ds es : List ℕ} where
    pub mix-draws : (k : ℕ) → SameDraws F (mix_cost f n (columns_from w j)) ds es → mix f n w r j k ds t ≡ mix f n w r j k es t
    unfolding mix
    mix-draws k d =
        let c : ℕ = columns_from w j * pairs n in
        let d₀ : SameDraws F (flag_draws f n + c) ds es = rw mix_cost_is at d in
        ap (λ (s : List ℕ). join_rows F false n w r k j s (drop (flag_draws f n) ds) t) (flag_draws_lem c d₀)
        ∙ join_rows-draws F false n w r k j _ t (flag_length es) (same_drop F (flag_draws f n) c (le_refl _) d₀)

    pub check-draws : SameDraws F (check_cost f n) ds es → check f n w r j ds t ≡ check f n w r j es t
    unfolding check
    check-draws d =
        let d₀ : SameDraws F (flag_draws f n + pairs n) ds es = rw check_cost_is at d in
        ap (opening F (drop (flag_draws f n) ds)) (flag_draws_lem (pairs n) d₀)
        ∙ opening-draws F (zero_flag f es (entry n w r j t)) (rw (flag_length es) (same_drop F (flag_draws f n) (pairs n) (le_refl _) d₀))

    pub scale-draws : {nz mz : List ℕ} → SameDraws F (scale_nonzero n) nz mz → SameDraws F (scale_cost n (columns_from w j)) ds es
        → scale f n w r j nz ds t ≡ scale f n w r j mz es t
    unfolding scale scale_nonzero
    scale-draws {nz} {mz} dz d =
        let c : ℕ = n * (columns_from w j * (n - 1)) in
        let e : List ℕ = entry n w r j t in
        let row : List ℕ = row_from n w r j t in
        let d₀ : SameDraws F (inversion_draws n + c) ds es = rw scale_cost_is at d in
        ap (λ (new : List ℕ). put_row n w r j new t)
        (ap (λ (fs : List ℕ). scale_all F n (columns_from w j) fs (drop (inversion_draws n) ds) row)
        (factors-draws F e (rw pivot_length dz) (rw pivot_length (same_fewer F (omega arith) d₀)))
        ∙ scale_all-draws F n _ _ row (same_drop F (inversion_draws n) c (le_refl _) d₀))

    -- Clear of row r, by row k
    pub clear-draws : (k : ℕ) → SameDraws F (clear_cost n (columns_from w j)) ds es → clear f n w k j r ds t ≡ clear f n w k j r es t
    unfolding clear clear_cost
    clear-draws k d = join_rows-draws F true n w r k j _ t pivot_length d

pub opens_draws : (f n rows w : ℕ) (t : List ℕ) → length t ≡ table_bytes n rows w → {r : ℕ} → Inside rows w r w → {ds es : List ℕ}
    → SameDraws (field_of f) (open_cost n) ds es → unknown_at f n w r ds t ≡ unknown_at f n w r es t
unfolding unknown_at open_cost
opens_draws f n rows w t lt {r} P d =
    opening-draws (field_of f) (entry n w r w t) (rw (entry_length n rows w t lt P) d)
