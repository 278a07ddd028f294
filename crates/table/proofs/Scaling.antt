-- Scale: how far its loops reach, that the array of four that an inversion returns serves as the list of its factors, and that a row may be
-- multiplied whole before its entries are refreshed.
-- Assumes nothing.
use mathlib.Core.Path.{◌≡◌, refl, sym, ap, ◌∙◌}
use Prim.Native.Nat.{ℕ, zero, suc, ◌-◌, ◌*◌, ◌≤◌}
use mathlib.Core.List.{List, [], ◌∷◌, map}
use native.Mathlib.Omega.{arith}
use native.Mathlib.Nat.{mul-le-mul}
use lib.ListN.{length, get_or, take, drop}
use Rattle.field.specs.Field.{Ops}
use Rattle.sharing.specs.Rules.{four_of, refresh, scaled}
use Rattle.sharing.proofs.Loops.{run_ext, rest}
use Rattle.sharing.proofs.Lengths.{refresh-length, scaled-length}
use Rattle.sharing.proofs.Inverting.{four_of-at}
use Rattle.sharing.specs.Bounds.{most_columns}
use Rattle.table.specs.Layout.{part}
use Rattle.table.specs.Steps.{scale_turn, scale_row, factor_turn, scale_all}
use Rattle.table.specs.Code.Refreshing.{refresh_column, refresh_row}
use Rattle.table.proofs.Columns.{Keeps, columns_ext, over_columns-length, over_columns-at}
use Rattle.table.proofs.Lengths.{scale_keeps}

-- the draws of one factor
pub turn_few : (n columns : ℕ) → n ≤ 4 → columns ≤ most_columns → columns * (n - 1) ≤ most_columns * 3
turn_few n columns h k = mul-le-mul {n₁ = columns} {m₁ = n - 1} {n₂ = most_columns} {m₂ = 3} k (omega arith)

-- only the first n of the four are read
pub scale_all-four : (F : Ops) (n columns : ℕ) (fs ds row : List ℕ) → n ≤ 4
    → scale_all F n columns (four_of fs) ds row ≡ scale_all F n columns fs ds row
unfolding scale_all factor_turn
scale_all-four F n columns fs ds row h =
    run_ext (factor_turn F n columns (four_of fs) ds) (factor_turn F n columns fs ds) n
    (λ i l s. rw (four_of-at fs i (omega arith)))
    row

-- ---- a row multiplied, then refreshed

take-map : (g : ℕ → ℕ) (k : ℕ) (s : List ℕ) → take k (map g s) ≡ map g (take k s)
take-map g zero s = refl
take-map g (suc k) [] = refl
take-map g (suc k) (x ∷ s) = ap (λ (t : List ℕ). g x ∷ t) (take-map g k s)

drop-map : (g : ℕ → ℕ) (k : ℕ) (s : List ℕ) → drop k (map g s) ≡ map g (drop k s)
drop-map g zero s = refl
drop-map g (suc k) [] = refl
drop-map g (suc k) (x ∷ s) = drop-map g k s

-- a part of what was multiplied
scaled-part : (F : Ops) (z k p : ℕ) (s : List ℕ) → part k p (scaled F z s) ≡ scaled F z (part k p s)
unfolding part scaled
scaled-part F z k p s = ap (take k) (drop-map (F.mul z) p s) ∙ take-map (F.mul z) k (drop p s)

refresh_keeps : (F : Ops) (n : ℕ) (ds : List ℕ) → Keeps n (refresh_column F n ds)
unfolding refresh_column
refresh_keeps F n ds = record { shares = λ u e l. refresh-length F _ e ∙ l }

-- each column is multiplied and refreshed, in either order of the loops
pub refresh-scaled : (F : Ops) (n columns z : ℕ) (ds row : List ℕ) → length row ≡ columns * n
    → refresh_row F n columns ds (scaled F z row) ≡ scale_row F n columns z ds row
unfolding refresh_row refresh_column scale_row scale_turn
refresh-scaled F n columns z ds row l =
    columns_ext n columns _ _
    (over_columns-length n _ (refresh_keeps F n ds) columns (scaled F z row) lz)
    (over_columns-length n _ (scale_keeps F n z ds) columns row l)
    (λ u h.
    over_columns-at n _ (refresh_keeps F n ds) columns (scaled F z row) lz u h
    ∙ ap (refresh F (drop (u * (n - 1)) ds)) (scaled-part F z n (u * n) row)
    ∙ sym (over_columns-at n _ (scale_keeps F n z ds) columns row l u h))
  where
    lz : length (scaled F z row) ≡ columns * n
    lz = scaled-length F z row ∙ l

-- one factor: a row multiplied whole, and refreshed by the draws from its own first on
pub factor_done : (F : Ops) (n columns z i d : ℕ) (fs ds row s t : List ℕ) → length row ≡ columns * n → z ≡ get_or fs i 0 → d ≡ i * (columns * (n - 1))
    → s ≡ scaled F z row → t ≡ refresh_row F n columns (take (length ds - d) (drop d ds)) s → t ≡ factor_turn F n columns fs ds i row
unfolding factor_turn
factor_done F n columns z i d fs ds row s t l ez ed es et =
    et ∙ rw (rest d ds, ed, es, ez) (refresh-scaled F n columns (get_or fs i 0) (drop (i * (columns * (n - 1))) ds) row l)
