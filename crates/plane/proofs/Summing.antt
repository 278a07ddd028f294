-- What `combine` leaves in a word of a row: what stood there, joined by the sum of its share; in whatever order the terms and the draws join.
-- Assumes nothing.
use mathlib.Core.Path.{◌≡◌, refl, sym, ap, ◌∙◌}
use Prim.Native.Nat.{ℕ, suc, ◌+◌, ◌-◌, ◌*◌, ◌<◌, ◌≤◌}
use mathlib.Core.List.{List}
use native.Mathlib.Omega.{arith}
use native.Mathlib.Decide.{ℕ_discrete}
use lib.Bits.{bit_xor, xor_comm}
use lib.ListN.{length, get_or}
use Rattle.sharing.specs.Run.{run, before, pairs}
use Rattle.sharing.proofs.Pairs.{run_holds}
use Rattle.row.specs.Code.Shares.{pair_sum, share_sum}
use Rattle.row.proofs.Places.{place_in, same_row}
use Rattle.row.proofs.OneTurn.{run_keeps, run_one}
use Rattle.plane.proofs.Standing.{Has, xor_keeps, xor_hits}
use Rattle.plane.proofs.Orders.{joins, joins-xor, draws-last}
use Rattle.plane.specs.Code.Sums.{own_turn, crossed_at, pair_turn, pairs_turn, word_sums, all_sums}

-- ---- a place that the turns do not come to

module _ (n : ℕ) (p z : List ℕ) (l o : ℕ) where
  own_keeps : (g q i : ℕ) → (o ≡ g + i → ⊥) → {x : ℕ} (y : List ℕ) → Has l o x y → Has l o x (own_turn n g p q i y)
  unfolding own_turn
  own_keeps g q i e y H = xor_keeps (g + i) _ e H

  pair_keeps : (g q k i v : ℕ) → (o ≡ g + i → ⊥) → (o ≡ g + (i + 1 + v) → ⊥) → {x : ℕ} (y : List ℕ) → Has l o x y → Has l o x (pair_turn n g p q z k i v y)
  unfolding pair_turn
  pair_keeps g q k i v e d y H = xor_keeps (g + (i + 1 + v)) _ d (xor_keeps (g + i) _ e H)

  pairs_keeps : (g q k i : ℕ) → (o ≡ g + i → ⊥) → ((v : ℕ) → v < n - suc i → o ≡ g + (i + 1 + v) → ⊥) → {x : ℕ} (y : List ℕ) → Has l o x y
      → Has l o x (pairs_turn n g p q z k i y)
  unfolding pairs_turn
  pairs_keeps g q k i e d {x} y H =
      run_keeps (Has l o x) (pair_turn n g p q z (k + before n i) i) (n - suc i) (λ v hv y H. pair_keeps g q (k + before n i) i v e (d v hv) y H) y H

  word_keeps : (t : ℕ) → ((i : ℕ) → i < n → o ≡ t * n + i → ⊥) → {x : ℕ} (y : List ℕ) → Has l o x y → Has l o x (word_sums n p z t y)
  unfolding word_sums
  word_keeps t e {x} y H =
      run_keeps (Has l o x) (pairs_turn n (t * n) p (t * (n * n)) z (t * pairs n)) n
      (λ i hi y H. pairs_keeps (t * n) (t * (n * n)) (t * pairs n) i (e i hi) (λ v hv. e (i + 1 + v) (omega arith)) y H) _
      (run_keeps (Has l o x) (own_turn n (t * n) p (t * (n * n))) n (λ i hi y H. own_keeps (t * n) (t * (n * n)) i (e i hi) y H) y H)

pub sums-beyond : (n words : ℕ) (p z row : List ℕ) (o : ℕ) → words * n ≤ o → get_or (all_sums n words p z row) o 0 ≡ get_or row o 0
unfolding all_sums
sums-beyond n words p z row o h =
    (run_keeps (Has 0 o (get_or row o 0)) (word_sums n p z) words
    (λ t ht y H. word_keeps n p z 0 o t (λ i hi e. omega (arith, place_in words n t i ht hi)) y H)
    row (record { size = omega arith; at = refl })).at

-- ---- the place of share s, in word u

-- what stood there joins last
apart : (D G : ℕ → ℕ) (m s x a : ℕ) → joins D m (joins G s (bit_xor x a)) ≡ bit_xor x (joins D m (joins G s a))
apart D G m s x a =
    ap (λ (y : ℕ). joins D m (joins G s y)) (xor_comm x a) ∙ ap (joins D m) (joins-xor G s a x) ∙ joins-xor D m (joins G s a) x
    ∙ xor_comm (joins D m (joins G s a)) x

module _ (n words : ℕ) (p z : List ℕ) (u s : ℕ) (hu : u < words) (hs : s < n) where
  abbrev q : ℕ
  q = u * (n * n)

  abbrev k : ℕ
  k = u * pairs n

  abbrev Z : ℕ → ℕ
  Z d = get_or z (k + d) 0

  abbrev P : ℕ → ℕ → ℕ
  P i j = get_or p (q + (j * n + i)) 0

  abbrev At : ℕ → List ℕ → Type 0
  At = Has (words * n) (u * n + s)

  here : u * n + s < words * n
  here = place_in words n u s hu hs

  own-joins : {x : ℕ} (y : List ℕ) → At x y → At (bit_xor x (P s s)) (run (own_turn n (u * n) p q) n y)
  unfolding own_turn
  own-joins {x} y H =
      run_one (At x) (At (bit_xor x (P s s))) (own_turn n (u * n) p q) n s hs
      (λ i hi e y H. own_keeps n p z (words * n) (u * n + s) (u * n) q i (λ d. e (omega arith)) y H)
      (λ i hi e y H. own_keeps n p z (words * n) (u * n + s) (u * n) q i (λ d. e (omega arith)) y H)
      (λ y H. xor_hits (u * n + s) (P s s) refl here H) y H

  -- one of the pairs of i < s ends at s
  row-joins : (i : ℕ) → i < s → {x : ℕ} (y : List ℕ) → At x y → At (bit_xor x (pair_sum n Z P s i)) (pairs_turn n (u * n) p q z k i y)
  unfolding pairs_turn pair_turn crossed_at pair_sum
  row-joins i hi {x} y H =
      let e : i + 1 + (s - suc i) ≡ s = omega arith in
      let d : k + before n i + (s - suc i) ≡ k + (before n i + (s - suc i)) = omega arith in
      run_one (At x) (At (bit_xor x (pair_sum n Z P s i))) (pair_turn n (u * n) p q z (k + before n i) i) (n - suc i) (s - suc i) (omega arith)
      (λ v hv e y H. pair_keeps n p z (words * n) (u * n + s) (u * n) q (k + before n i) i v (λ d. omega arith) (λ d. omega arith) y H)
      (λ v hv e y H. pair_keeps n p z (words * n) (u * n + s) (u * n) q (k + before n i) i v (λ d. omega arith) (λ d. omega arith) y H)
      (λ y H. rw (e, d) (xor_hits (u * n + s) (pair_sum n Z P s i) refl here (xor_keeps (u * n + i) _ (λ d. omega arith) H))) y H

  -- the pairs of s itself give it their draws
  row-draws : {x : ℕ} (y : List ℕ) → At x y → At (joins (λ v. Z (before n s + v)) (n - suc s) x) (pairs_turn n (u * n) p q z k s y)
  unfolding pairs_turn pair_turn run
  row-draws {x} y H =
      run_holds (λ v y. At (joins (λ v. Z (before n s + v)) v x) y) (pair_turn n (u * n) p q z (k + before n s) s) (n - suc s)
      (λ v hv y H.
      let d : k + before n s + v ≡ k + (before n s + v) = omega arith in
      rw d (xor_keeps (u * n + (s + 1 + v)) _ (λ d. omega arith) (xor_hits (u * n + s) (Z (before n s + v)) refl here H)))
      y H

  -- and those of i > s leave it alone
  row_keeps : (i : ℕ) → s < i → {x : ℕ} (y : List ℕ) → At x y → At x (pairs_turn n (u * n) p q z k i y)
  row_keeps i hi y H =
      pairs_keeps n p z (words * n) (u * n + s) (u * n) q k i (λ d. omega arith) (λ v hv d. omega arith) y H

  -- after the pairs of i: share s has what joins it of the shares before i, and once i is past s, its draws too
  pairs_join : {x : ℕ} (y : List ℕ) → At x y
      → At (joins (λ v. Z (before n s + v)) (n - suc s) (joins (pair_sum n Z P s) s x)) (run (pairs_turn n (u * n) p q z k) n y)
  unfolding run
  pairs_join {x} y H =
      let A : ℕ → ℕ = λ i. joins (pair_sum n Z P s) i x in
      let E : ℕ = joins (λ v. Z (before n s + v)) (n - suc s) (A s) in
      (run_holds (λ i y. (i ≤ s → At (A i) y) × (s < i → At E y)) (pairs_turn n (u * n) p q z k) n
      (λ i hi y H. (
        λ g. row-joins i g y (H.0 (omega arith)),
        λ g. elim (ℕ_discrete i s) [
          | yes e ↦ let a : A s ≡ A i = ap A (sym e) in rw e (row-draws y (rw a (H.0 (omega arith))))
          | no e ↦ row_keeps i (omega arith) y (H.1 (omega arith))
        ],
      ))
      y
      (λ g. H, λ g. absurd (omega arith))).1 hs

  word-joins : {x : ℕ} (y : List ℕ) → At x y → At (bit_xor x (share_sum n Z P s)) (word_sums n p z u y)
  unfolding word_sums
  word-joins {x} y H =
      let D : ℕ → ℕ = λ v. Z (before n s + v) in
      let e : bit_xor x (share_sum n Z P s) ≡ joins D (n - suc s) (joins (pair_sum n Z P s) s (bit_xor x (P s s))) =
      ap (bit_xor x) (draws-last n Z P s) ∙ sym (apart D (pair_sum n Z P s) (n - suc s) s x (P s s)) in
      rw e (pairs_join _ (own-joins y H))

  pub sums_at : (row : List ℕ) → words * n ≤ length row → get_or (all_sums n words p z row) (u * n + s) 0 ≡ bit_xor (get_or row (u * n + s) 0) (share_sum n Z P s)
  unfolding all_sums
  sums_at row h =
      let x : ℕ = get_or row (u * n + s) 0 in
      (run_one (At x) (At (bit_xor x (share_sum n Z P s))) (word_sums n p z) words u hu
      (λ t ht e y H. word_keeps n p z (words * n) (u * n + s) t (λ i hi d. e (sym (same_row n u s t i hs hi d))) y H)
      (λ t ht e y H. word_keeps n p z (words * n) (u * n + s) t (λ i hi d. e (sym (same_row n u s t i hs hi d))) y H)
      word-joins row (record { size = h; at = refl })).at
