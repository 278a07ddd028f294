-- R-6's figures: the flag of three shares in both fields, and the draws that it takes. And that with two shares nothing changes.
-- Assumes nothing.
use mathlib.Core.Path.{◌≡◌, refl}
use Prim.Native.Nat.{ℕ, zero, suc}
use mathlib.Core.List.{List, [], ◌∷◌}
use Rattle.field.specs.Field.{Binary, F16, F256, field_of, bits, bitwise}
use Rattle.field.proofs.Fields.{sub-add}
use Rattle.sharing.specs.Run.{run, over_pairs}
use Rattle.sharing.specs.Rules.{draw_at, refresh_turn, refresh, product_turn, product_over, pair_refresh_turn, pair_refresh}
use Rattle.flag.specs.Flag.{and_of, folds, fold_draws, flag_draws, shifted, fresh_shift, fold, low_bits, zero_flag}

-- k draws: a, a + 1, ..
unfoldable pub counting : ℕ → ℕ → List ℕ
counting zero a = []
counting (suc k) a = a ∷ counting k (suc a)

pub flags : zero_flag 16 (counting 12 1) (1 ∷ 2 ∷ 3 ∷ []) ∷ zero_flag 256 (counting 18 16) (0x57 ∷ 0x83 ∷ 0xd4 ∷ []) ∷ []
    ≡ (0 ∷ 1 ∷ 0 ∷ []) ∷ (0 ∷ 0 ∷ 1 ∷ []) ∷ []
unfolding counting F16 F256 field_of bits bitwise run over_pairs product_turn product_over pair_refresh_turn pair_refresh and_of folds fold_draws shifted fresh_shift fold low_bits zero_flag
flags = refl

pub flag_draws_lem : flag_draws 16 2 ∷ flag_draws 16 3 ∷ flag_draws 16 4 ∷ flag_draws 256 2 ∷ flag_draws 256 3 ∷ flag_draws 256 4 ∷ []
    ≡ 4 ∷ 12 ∷ 24 ∷ 6 ∷ 18 ∷ 36 ∷ []
unfolding folds fold_draws
flag_draws_lem = refl

-- with two shares the only pair's draw does what 01's Refresh does, share for share
pub two_as_before : {f : ℕ} → Binary f → (ds : List ℕ) (x y : ℕ) → pair_refresh (field_of f) ds (x ∷ y ∷ []) ≡ refresh (field_of f) ds (x ∷ y ∷ [])
unfolding refresh_turn refresh pair_refresh_turn pair_refresh over_pairs run
two_as_before {f} B ds x y =
    rw (sub-add B x (draw_at (field_of f) ds 0), sub-add B y (draw_at (field_of f) ds 0)) refl
