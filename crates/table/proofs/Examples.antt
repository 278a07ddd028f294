-- Systems of the paper, over F16 and with two shares, worked out by the definitions of the steps. Each value v is dealt as v + 1 and 1.
-- Assumes nothing.
use mathlib.Core.Path.{◌≡◌, refl}
use Prim.Native.Nat.{ℕ}
use mathlib.Core.List.{List, [], ◌∷◌}
use lib.Bits.{bit_xor}
use Rattle.field.specs.Poly.{product as polynomials, times, left}
use Rattle.field.specs.Field.{inverse_below, inv, F16, field_of, bits, bitwise}
use Rattle.sharing.specs.Run.{run, over_pairs}
use Rattle.sharing.specs.Rules.{sum, refresh_turn, refresh, product_turn, product_over, product, pair_refresh_turn, pair_refresh, opening, scaled, blind_turn, blinded, blinded_value, factors, inversion_draws}
use Rattle.sharing.specs.Lists.{joined}
use Rattle.flag.specs.Flag.{and_of, folds, fold_draws, shifted, fresh_shift, fold, low_bits, zero_flag}
use Rattle.table.specs.Layout.{cell, part, put}
use Rattle.table.specs.Steps.{over_columns, signed, join_turn, join_row, join_rows, mix, check, scale_turn, scale_row, factor_turn, scale_all, scale, clear, unknown_at, lift_turn, lift}

pub dealt : List ℕ → List ℕ
dealt [] = []
dealt (v ∷ vs) = bit_xor v 1 ∷ 1 ∷ dealt vs

-- the draws of each step, and the nonzero one: any serve
masks : List ℕ
masks = 7 ∷ 3 ∷ 12 ∷ 9 ∷ 5 ∷ 14 ∷ 2 ∷ 8 ∷ []

nonzero : List ℕ
nonzero = 6 ∷ []

-- one row: what Check(1) opens, and x
pub one : List ℕ → List ℕ
one t =
    let a = scale 16 2 2 1 1 nonzero masks t in
    check 16 2 2 1 1 masks t ∷ unknown_at 16 2 2 1 masks a ∷ []

-- two rows: the table before Check(1), and before Check(2)
mixed : List ℕ → List ℕ
mixed t = mix 16 2 3 1 1 2 masks t

cleared : List ℕ → List ℕ
cleared t = clear 16 2 3 1 1 2 masks (scale 16 2 3 1 1 nonzero masks (mixed t))

-- what the two open
pub checks : List ℕ → List ℕ
checks t = check 16 2 3 1 1 masks (mixed t) ∷ check 16 2 3 2 2 masks (cleared t) ∷ []

-- x
pub found : List ℕ → List ℕ
found t =
    let a = scale 16 2 3 2 2 nonzero masks (cleared t) in
    let x = unknown_at 16 2 3 2 masks a in
    unknown_at 16 2 3 1 masks (lift 16 2 3 2 2 x a) ∷ x ∷ []

-- [2]x=[3]: 8. Rows (0,1),(1,0), b=(5,7): x=(7,5). Rows (1,2),(2,4), b=(1,2): stopped 2
pub examples : (one (dealt (2 ∷ 3 ∷ [])) ≡ 0 ∷ 8 ∷ [])
    × (checks (dealt (0 ∷ 1 ∷ 5 ∷ 1 ∷ 0 ∷ 7 ∷ [])) ≡ 0 ∷ 0 ∷ [])
    × (found (dealt (0 ∷ 1 ∷ 5 ∷ 1 ∷ 0 ∷ 7 ∷ [])) ≡ 7 ∷ 5 ∷ [])
    × (checks (dealt (1 ∷ 2 ∷ 1 ∷ 2 ∷ 4 ∷ 2 ∷ [])) ≡ 0 ∷ 1 ∷ [])
unfolding dealt masks nonzero one mixed cleared checks found polynomials times left inverse_below inv F16 field_of bits bitwise run over_pairs sum refresh_turn refresh product_turn product_over product and_of pair_refresh_turn pair_refresh opening folds fold_draws shifted fresh_shift fold low_bits zero_flag scaled blind_turn blinded blinded_value factors inversion_draws joined cell part put over_columns signed join_turn join_row join_rows mix check scale_turn scale_row factor_turn scale_all scale clear unknown_at lift_turn lift
examples = (refl, refl, refl, refl)
