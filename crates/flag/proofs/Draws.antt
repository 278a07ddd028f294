-- And, a fold and the flag read their own draws and no others.
-- Assumes nothing.
use mathlib.Core.Path.{◌≡◌, refl, ap, ◌∙◌}
use Prim.Native.Nat.{ℕ, ◌+◌, ◌*◌, ◌/◌, ◌^◌}
use mathlib.Core.List.{List}
use native.Mathlib.Omega.{arith}
use native.Mathlib.Nat.{le_refl}
use lib.ListN.{length, drop}
use Rattle.field.specs.Field.{Ops, field_of, bits}
use Rattle.sharing.specs.Run.{pairs}
use Rattle.sharing.specs.Lists.{SameDraws}
use Rattle.sharing.proofs.Pairs.{run_same}
use Rattle.sharing.proofs.Draws.{product_over_ext, same_fewer, same_drop, same_turn, pair_refresh-draws}
use Rattle.flag.specs.Flag.{and_of, folds, fold_draws, flag_draws, complemented, shifted, fresh_shift, fold, fold_turn, low_bits, zero_flag}
use Rattle.flag.proofs.Lengths.{shifted-length, complemented-length, fold_turn-length}

module _ (F : Ops) where
  pub and_of-draws : {ds es : List ℕ} (a b : List ℕ) → SameDraws F (pairs (length a)) ds es → and_of F ds a b ≡ and_of F es a b
  unfolding and_of
  and_of-draws a b d = product_over_ext F (length a) d.at (λ i j hi hj. refl)

  pub fresh_shift-draws : (h : ℕ) {ds es : List ℕ} (s : List ℕ) → SameDraws F (pairs (length s)) ds es → fresh_shift F h ds s ≡ fresh_shift F h es s
  unfolding fresh_shift
  fresh_shift-draws h s d = pair_refresh-draws F (shifted F h s) (rw (shifted-length F h s) d)

  pub fold-draws : (h : ℕ) {ds es : List ℕ} (s : List ℕ) → SameDraws F (fold_draws (length s)) ds es → fold F h ds s ≡ fold F h es s
  unfolding fold fold_draws
  fold-draws h {ds} {es} s d =
      let a : ℕ = pairs (length s) in
      let e : 2 * a ≡ a + a = omega arith in
      ap (and_of F (drop a ds) s) (fresh_shift-draws h s (same_fewer F (omega arith) d))
      ∙ and_of-draws s (fresh_shift F h es s) (same_drop F a a (le_refl _) (rw e at d))

pub zero_flag-draws : (f : ℕ) {ds es : List ℕ} (s : List ℕ) → SameDraws (field_of f) (flag_draws f (length s)) ds es
    → zero_flag f ds s ≡ zero_flag f es s
unfolding zero_flag
zero_flag-draws f {ds} {es} s d =
    ap low_bits
    (run_same (fold_turn f ds (length s)) (fold_turn f es (length s)) (length s) (folds f) (fold_turn-length f ds (length s))
    (λ k h t e.
    fold-draws (field_of f) (bits f / 2 ^ (k + 1)) t (rw e (same_turn (field_of f) k (fold_draws (length s)) h d)))
    (complemented (field_of f) s)
    (complemented-length (field_of f) s))
