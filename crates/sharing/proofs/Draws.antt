-- Each rule reads its own draws and no others: two tapes whose first draws are the same, as many as the rule takes, give the same result.
-- So a rule does the same on the exact part of a tape as on a longer one.
-- Assumes nothing.
use mathlib.Core.Path.{◌≡◌, refl, sym, ap, ap₂, ◌∙◌}
use Prim.Native.Nat.{ℕ, ◌+◌, ◌-◌, ◌*◌, ◌%◌, ◌<◌, ◌≤◌}
use mathlib.Core.List.{List, [], ◌∷◌, ◌++◌}
use native.Mathlib.Omega.{arith}
use native.Mathlib.Nat.{le_refl, mul-le-mul}
use lib.ListN.{length, take, drop, get_or-append}
use lib.Seq.{get_or-take, get_or-drop}
use Rattle.field.specs.Field.{Ops, inv}
use Rattle.sharing.specs.Run.{tab, pairs, over_pairs}
use Rattle.sharing.specs.Rules.{sum, draw_at, refresh_turn, refresh, product_turn, product_over, product, pair_refresh_turn, pair_refresh, opening, scaled, blind_turn, blinded, blinded_value, factors, inversion_draws}
use Rattle.sharing.specs.Lists.{SameDraws}
use Rattle.sharing.proofs.Loops.{run_ext, taken_room}
use Rattle.sharing.proofs.Pairs.{pairs_small, tab_ext, over_ext, run_same}
use Rattle.sharing.proofs.Lengths.{scaled-length, blind_turn-length, blinded-length}

-- whatever the draws and the products of single shares come from
pub product_over_ext : (F : Ops) {Z W : ℕ → ℕ} {P Q : ℕ → ℕ → ℕ} (n : ℕ) → ((k : ℕ) → k < pairs n → Z k ≡ W k)
    → ((i j : ℕ) → i < n → j < n → P i j ≡ Q i j) → product_over F Z P n ≡ product_over F W Q n
unfolding product_over product_turn
product_over_ext F {Z} {W} {P} {Q} n z p =
    over_ext (product_turn F Z P) (product_turn F W Q) n (λ k i j hk hi hj s. rw (z k hk, p i j hi hj, p j i hj hi)) (tab n (λ i. P i i))
    ∙ ap (over_pairs (product_turn F W Q) n) (tab_ext n (λ i h. p i i h h))

module _ (F : Ops) where
  -- ---- tapes

  pub same_fewer : {k l : ℕ} {ds es : List ℕ} → k ≤ l → SameDraws F l ds es → SameDraws F k ds es
  same_fewer h d = record { at = λ i g. d.at i (omega arith) }

  pub same_drop : {k : ℕ} (a l : ℕ) {ds es : List ℕ} → a + l ≤ k → SameDraws F k ds es → SameDraws F l (drop a ds) (drop a es)
  same_drop a l {ds} {es} h d =
      record {
        at = λ i g. ap (λ (x : ℕ). x % F.q) (get_or-drop a ds i 0) ∙ d.at (a + i) (omega arith) ∙ ap (λ (x : ℕ). x % F.q) (sym (get_or-drop a es i 0));
      }

  -- turn k of l turns, each of c draws
  pub same_turn : {l : ℕ} (k c : ℕ) {ds es : List ℕ} → k < l → SameDraws F (l * c) ds es → SameDraws F c (drop (k * c) ds) (drop (k * c) es)
  same_turn {l} k c h d = same_drop (k * c) c (taken_room (k * c) k c l refl h (le_refl _)) d

  -- the exact part of a tape
  pub same_take : (k : ℕ) (ds : List ℕ) → SameDraws F k (take k ds) ds
  same_take k ds = record { at = λ i h. ap (λ (x : ℕ). x % F.q) (get_or-take k ds i 0 h) }

  -- a longer tape
  pub same_longer : {k : ℕ} (ds more : List ℕ) → k ≤ length ds → SameDraws F k ds (ds ++ more)
  same_longer ds more h =
      record { at = λ i g. ap (λ (x : ℕ). x % F.q) (sym (get_or-append ds more 0 i (omega arith))) }

  -- ---- the rules

  pub refresh-draws : {ds es : List ℕ} (s : List ℕ) → SameDraws F (length s - 1) ds es → refresh F ds s ≡ refresh F es s
  unfolding refresh refresh_turn
  refresh-draws {ds} {es} s d =
      run_ext (refresh_turn F ds) (refresh_turn F es) (length s - 1) (λ k h t. rw (d.at k h)) s

  pub pair_refresh-draws : {ds es : List ℕ} (s : List ℕ) → SameDraws F (pairs (length s)) ds es → pair_refresh F ds s ≡ pair_refresh F es s
  unfolding pair_refresh pair_refresh_turn
  pair_refresh-draws {ds} {es} s d =
      over_ext (pair_refresh_turn F ds) (pair_refresh_turn F es) (length s) (λ k i j h hi hj t. rw (d.at k h)) s

  pub opening-draws : {ds es : List ℕ} (s : List ℕ) → SameDraws F (pairs (length s)) ds es → opening F ds s ≡ opening F es s
  unfolding opening
  opening-draws s d = ap (sum F) (pair_refresh-draws s d)

  pub product-draws : {ds es : List ℕ} (a b : List ℕ) → SameDraws F (pairs (length a)) ds es → product F ds a b ≡ product F es a b
  unfolding product
  product-draws a b d = product_over_ext F (length a) d.at (λ i j hi hj. refl)

  -- ---- Inversion

  module _ {nz mz : List ℕ} {ds es : List ℕ} (s : List ℕ) (dz : SameDraws F (length s - 1) nz mz) where
    pub blinded-draws : SameDraws F ((length s - 1) * (length s - 1)) ds es → blinded F nz ds s ≡ blinded F mz es s
    unfolding blinded blind_turn
    blinded-draws d =
        run_same (blind_turn F nz ds) (blind_turn F mz es) (length s) (length s - 1) (blind_turn-length F nz ds)
        (λ k h t e.
        let c : ℕ = length t - 1 in
        let l : length (scaled F (draw_at F mz k) t) ≡ length t = scaled-length F (draw_at F mz k) t in
        ap (λ (z : ℕ). refresh F (drop (k * c) ds) (scaled F z t)) (dz.at k h)
        ∙ refresh-draws (scaled F (draw_at F mz k) t) (rw (l, e) (same_turn k (length s - 1) h d)))
        s refl

    module _ (d : SameDraws F (inversion_draws (length s)) ds es) where
      pub blinded_value-draws : blinded_value F nz ds s ≡ blinded_value F mz es s
      unfolding blinded_value inversion_draws
      blinded_value-draws =
          let c : ℕ = (length s - 1) * (length s - 1) in
          ap (opening F (drop c ds)) (blinded-draws (same_fewer (omega arith) d))
          ∙ opening-draws (blinded F mz es s) (rw (blinded-length F mz es s) (same_drop c (pairs (length s)) (le_refl _) d))

      pub factors-draws : factors F nz ds s ≡ factors F mz es s
      unfolding factors
      factors-draws =
          ap₂ (λ (l : List ℕ) (x : ℕ). l ++ (x ∷ [])) (tab_ext (length s - 1) dz.at) (ap (inv F) blinded_value-draws)

-- ---- how few draws an Inversion takes

pub blinding_few : (n : ℕ) → n ≤ 4 → (n - 1) * (n - 1) ≤ 9
blinding_few n h = mul-le-mul {n₁ = n - 1} {m₁ = n - 1} {n₂ = 3} {m₂ = 3} (omega arith) (omega arith)

pub inversion_few : (n : ℕ) → n ≤ 4 → inversion_draws n ≤ 15
unfolding inversion_draws
inversion_few n h = omega (arith, blinding_few n h, pairs_small n h)
