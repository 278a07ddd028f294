-- The rules keep the number of shares, or give it.
-- Assumes nothing.
use mathlib.Core.Path.{◌≡◌, refl, ◌∙◌}
use Prim.Native.Nat.{ℕ, ◌-◌, ◌<◌}
use mathlib.Core.List.{List}
use native.Mathlib.Omega.{arith}
use lib.ListN.{length, length-set, length-map, length-append}
use Rattle.field.specs.Field.{Ops}
use Rattle.sharing.specs.Run.{tab}
use Rattle.sharing.specs.Rules.{refresh_turn, refresh, product_turn, product_over, product, pair_refresh_turn, pair_refresh, scaled, blind_turn, blinded, factors, four_of}
use Rattle.sharing.specs.Lists.{joined}
use Rattle.sharing.proofs.Loops.{run_length}
use Rattle.sharing.proofs.Pairs.{tab-length, over_length}

pub joined_length : (op : ℕ → ℕ → ℕ) (s v : List ℕ) → length (joined op s v) ≡ length s
unfolding joined
joined_length op s v = tab-length (length s) _

pub four_of-length : (fs : List ℕ) → length (four_of fs) ≡ 4
unfolding four_of
four_of-length fs = refl

module _ (F : Ops) where
  refresh_turn-length : (ds : List ℕ) (k : ℕ) (s : List ℕ) → length (refresh_turn F ds k s) ≡ length s
  unfolding refresh_turn
  refresh_turn-length ds k s = simp length-set

  pub refresh-length : (ds s : List ℕ) → length (refresh F ds s) ≡ length s
  unfolding refresh
  refresh-length ds s = run_length (refresh_turn F ds) (refresh_turn-length ds) (length s - 1) s

  pub pair_refresh-length : (ds s : List ℕ) → length (pair_refresh F ds s) ≡ length s
  unfolding pair_refresh pair_refresh_turn
  pair_refresh-length ds s =
      over_length (pair_refresh_turn F ds) (λ k i j t. simp length-set) (length s) s

  pub product_over-length : (Z : ℕ → ℕ) (P : ℕ → ℕ → ℕ) (n : ℕ) → length (product_over F Z P n) ≡ n
  unfolding product_over product_turn
  product_over-length Z P n =
      over_length (product_turn F Z P) (λ k i j t. simp length-set) n (tab n (λ i. P i i)) ∙ tab-length n (λ i. P i i)

  pub product-length : (ds a b : List ℕ) → length (product F ds a b) ≡ length a
  unfolding product
  product-length ds a b = product_over-length _ _ (length a)

  pub scaled-length : (z : ℕ) (s : List ℕ) → length (scaled F z s) ≡ length s
  unfolding scaled
  scaled-length z s = length-map s _

  pub blind_turn-length : (nz ds : List ℕ) (k : ℕ) (s : List ℕ) → length (blind_turn F nz ds k s) ≡ length s
  unfolding blind_turn
  blind_turn-length nz ds k s = refresh-length _ (scaled F _ s) ∙ scaled-length _ s

  pub blinded-length : (nz ds s : List ℕ) → length (blinded F nz ds s) ≡ length s
  unfolding blinded
  blinded-length nz ds s = run_length (blind_turn F nz ds) (blind_turn-length nz ds) (length s - 1) s

  pub factors-length : (nz ds s : List ℕ) → 0 < length s → length (factors F nz ds s) ≡ length s
  unfolding factors
  factors-length nz ds s h = simp (length-append, tab-length) (omega arith)
