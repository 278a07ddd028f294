-- The flag's rules keep the number of shares.
-- Assumes nothing.
use mathlib.Core.Path.{◌≡◌, ◌∙◌}
use Prim.Native.Nat.{ℕ}
use mathlib.Core.List.{List}
use lib.ListN.{length, length-set, length-map}
use Rattle.field.specs.Field.{Ops, field_of}
use Rattle.sharing.proofs.Loops.{run_length}
use Rattle.sharing.proofs.Lengths.{pair_refresh-length, product_over-length}
use Rattle.flag.specs.Flag.{and_of, complemented, shifted, fresh_shift, fold, fold_turn, folds, low_bits, zero_flag}

pub low_bits-length : (s : List ℕ) → length (low_bits s) ≡ length s
unfolding low_bits
low_bits-length s = length-map s _

module _ (F : Ops) where
  pub and_of-length : (ds a b : List ℕ) → length (and_of F ds a b) ≡ length a
  unfolding and_of
  and_of-length ds a b = product_over-length F _ _ (length a)

  pub complemented-length : (s : List ℕ) → length (complemented F s) ≡ length s
  complemented-length s = simp length-set

  pub shifted-length : (h : ℕ) (s : List ℕ) → length (shifted F h s) ≡ length s
  unfolding shifted
  shifted-length h s = length-map s _

  pub fresh_shift-length : (h : ℕ) (ds s : List ℕ) → length (fresh_shift F h ds s) ≡ length s
  unfolding fresh_shift
  fresh_shift-length h ds s = pair_refresh-length F ds (shifted F h s) ∙ shifted-length h s

  pub fold-length : (h : ℕ) (ds s : List ℕ) → length (fold F h ds s) ≡ length s
  unfolding fold
  fold-length h ds s = and_of-length _ s _

pub fold_turn-length : (f : ℕ) (ds : List ℕ) (n i : ℕ) (s : List ℕ) → length (fold_turn f ds n i s) ≡ length s
fold_turn-length f ds n i s = fold-length (field_of f) _ _ s

pub zero_flag-length : (f : ℕ) (ds s : List ℕ) → length (zero_flag f ds s) ≡ length s
unfolding zero_flag
zero_flag-length f ds s =
    low_bits-length _
    ∙ run_length (fold_turn f ds (length s)) (fold_turn-length f ds (length s)) (folds f) (complemented (field_of f) s)
    ∙ complemented-length (field_of f) s
