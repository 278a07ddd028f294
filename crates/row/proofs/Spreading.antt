-- Where the draws of a row come to stand: row 0 has what is taken from each share, and row d the draws of the pairs whose shares are d apart.
-- Assumes nothing.
use mathlib.Core.Path.{◌≡◌, refl, sym, ap, ◌∙◌}
use Prim.Native.Nat.{ℕ, suc, ◌+◌, ◌-◌, ◌*◌, ◌<◌, ◌≤◌}
use mathlib.Core.List.{List}
use native.Mathlib.Omega.{arith}
use lib.Bits.{bit_xor}
use lib.ListN.{length, get_or, length-set}
use lib.Seq.{get_or-set_same, get_or-set_other}
use Rattle.sharing.specs.Run.{run, before, pairs, pair_turn, pairs_of, over_pairs}
use Rattle.sharing.proofs.Loops.{run_length}
use Rattle.sharing.proofs.Pairs.{run_holds, over_length}
use Rattle.sharing.specs.Code.Bytes.{xor_at}
use Rattle.row.specs.Code.Spread.{spread_turn, spread_column, spread_all}
use Rattle.row.specs.Code.Shares.{own_draws}
use Rattle.row.proofs.Places.{place_in, same_row}
use Rattle.row.proofs.OneTurn.{run_keeps, run_one}

-- what is known of the list: how long it is at least, and what stands at o
record Has (l o x : ℕ) (y : List ℕ) : Type 0 where
  size : l ≤ length y
  at : get_or y o 0 ≡ x

xor_keeps : {l o x : ℕ} (p v : ℕ) {y : List ℕ} → (o ≡ p → ⊥) → Has l o x y → Has l o x (xor_at p v y)
xor_keeps {o = o} p v {y} e H = record { size = simp length-set H.size; at = get_or-set_other y p o _ 0 e ∙ H.at }

xor_hits : {l o x : ℕ} (p v : ℕ) {y : List ℕ} → p ≡ o → o < l → Has l o x y → Has l o (bit_xor x v) (xor_at p v y)
xor_hits {o = o} p v {y} e h H =
    record {
      size = simp length-set H.size;
      at = rw e (get_or-set_same y o _ 0 (omega (arith, H.size)) ∙ ap (λ (k : ℕ). bit_xor k v) H.at);
    }

-- ---- one place

module _ (n columns span : ℕ) (z : List ℕ) (hw : columns * n ≤ span) (u d s : ℕ) (hu : u < columns) (hd : d < n) (hs : s < n) where
  -- byte s of column u, in row d
  abbrev o : ℕ
  o = d * span + (u * n + s)

  column_in : (t i : ℕ) → t < columns → i < n → t * n + i < span
  column_in t i ht hi = omega (arith, place_in columns n t i ht hi)

  o_in : o < n * span
  o_in = place_in n span d (u * n + s) hd (column_in u s hu hs)

  -- no two places are the same byte
  place_same : (t e i : ℕ) → t < columns → i < n → o ≡ e * span + (t * n + i) → (d ≡ e) × (u ≡ t) × (s ≡ i)
  place_same t e i ht hi p =
      let q : d ≡ e = same_row span d (u * n + s) e (t * n + i) (column_in u s hu hs) (column_in t i ht hi) p in
      let m : d * span ≡ e * span = ap (λ (k : ℕ). k * span) q in
      let r : u ≡ t = same_row n u s t i hs hi (omega arith) in
      let v : u * n ≡ t * n = ap (λ (k : ℕ). k * n) r in
      (q, r, omega arith)

  -- a pair that stands elsewhere
  turn_keeps : (t b k i j : ℕ) → t < columns → i < j → j < n
      → (d ≡ 0 → u ≡ t → s ≡ i → ⊥) → (d ≡ j - i → u ≡ t → s ≡ j → ⊥)
      → {x : ℕ} (y : List ℕ) → Has (n * span) o x y → Has (n * span) o x (spread_turn span z (t * n) b k i j y)
  unfolding spread_turn
  turn_keeps t b k i j ht hi hj f g y H =
      xor_keeps ((j - i) * span + (t * n + j)) _ (λ e. let p = place_same t (j - i) j ht hj e in g p.0 p.1 p.2)
      (xor_keeps (t * n + i) _ (λ e. let p = place_same t 0 i ht (omega arith) (omega arith) in f p.0 p.1 p.2) H)

  -- the pairs of i, where none of them stands at o
  row_keeps : (t b i : ℕ) → t < columns → i < n → (d ≡ 0 → u ≡ t → s ≡ i → ⊥) → ((v : ℕ) → d ≡ suc v → u ≡ t → s ≡ i + 1 + v → ⊥)
      → {x : ℕ} (y : List ℕ) → Has (n * span) o x y → Has (n * span) o x (pairs_of (spread_turn span z (t * n) b) n i y)
  row_keeps t b i ht hi f g {x} y H =
      run_keeps (Has (n * span) o x) (pair_turn (spread_turn span z (t * n) b) n i) (n - suc i)
      (λ v hv y H. turn_keeps t b (before n i + v) i (i + 1 + v) ht (omega arith) (omega arith) f (λ p q r. g v (omega arith) q r) y H) y H

  column_keeps : (t : ℕ) → t < columns → (t ≡ u → ⊥) → {x : ℕ} (y : List ℕ) → Has (n * span) o x y → Has (n * span) o x (spread_column n span z t y)
  unfolding spread_column over_pairs
  column_keeps t ht e {x} y H =
      run_keeps (Has (n * span) o x) (pairs_of (spread_turn span z (t * n) (t * pairs n)) n) n
      (λ i hi y H. row_keeps t (t * pairs n) i ht hi (λ p q r. e (sym q)) (λ v p q r. e (sym q)) y H) y H

  -- o's own column is all that matters
  all-columns : (x : ℕ) → ((y : List ℕ) → Has (n * span) o 0 y → Has (n * span) o x (spread_column n span z u y))
      → (c : List ℕ) → Has (n * span) o 0 c → Has (n * span) o x (spread_all n columns span z c)
  unfolding spread_all
  all-columns x h c H =
      run_one (Has (n * span) o 0) (Has (n * span) o x) (spread_column n span z) columns u hu (λ t ht e y H. column_keeps t ht e y H) (λ t ht e y H. column_keeps t ht e y H) h c H

  -- what it does there
  column_none : s < d → (y : List ℕ) → Has (n * span) o 0 y → Has (n * span) o 0 (spread_column n span z u y)
  unfolding spread_column over_pairs
  column_none l y H =
      run_keeps (Has (n * span) o 0) (pairs_of (spread_turn span z (u * n) (u * pairs n)) n) n
      (λ i hi y H. row_keeps u (u * pairs n) i hu hi (λ p q r. omega arith) (λ v p q r. omega arith) y H) y H

  column-pair : 1 ≤ d → d ≤ s → (y : List ℕ) → Has (n * span) o 0 y → Has (n * span) o (get_or z (u * pairs n + (before n (s - d) + (d - 1))) 0) (spread_column n span z u y)
  unfolding spread_column over_pairs spread_turn
  column-pair l m y H =
      let b : ℕ = u * pairs n in
      let i : ℕ = s - d in
      let x : ℕ = get_or z (b + (before n i + (d - 1))) 0 in
      let e : i + 1 + (d - 1) ≡ s = omega arith in
      let g : s - i ≡ d = omega arith in
      run_one (Has (n * span) o 0) (Has (n * span) o x) (pairs_of (spread_turn span z (u * n) b) n) n i (omega arith)
      (λ i hi e y H. row_keeps u b i hu hi (λ p q r. omega arith) (λ v p q r. omega arith) y H)
      (λ i hi e y H. row_keeps u b i hu hi (λ p q r. omega arith) (λ v p q r. omega arith) y H)
      (λ y H.
      run_one (Has (n * span) o 0) (Has (n * span) o x) (pair_turn (spread_turn span z (u * n) b) n i) (n - suc i) (d - 1) (omega arith)
      (λ v hv e y H. turn_keeps u b (before n i + v) i (i + 1 + v) hu (omega arith) (omega arith) (λ p q r. omega arith) (λ p q r. omega arith) y H)
      (λ v hv e y H. turn_keeps u b (before n i + v) i (i + 1 + v) hu (omega arith) (omega arith) (λ p q r. omega arith) (λ p q r. omega arith) y H)
      (λ y H. rw e (xor_hits ((s - i) * span + (u * n + s)) x (rw g refl) o_in
      (xor_keeps (u * n + i) x (λ q. omega (arith, place_same u 0 i hu (omega arith) (omega arith))) H)))
      y H)
      y H

  column-own : d ≡ 0 → (y : List ℕ) → Has (n * span) o 0 y → Has (n * span) o (own_draws n (λ k. get_or z (u * pairs n + k) 0) s) (spread_column n span z u y)
  unfolding spread_column over_pairs spread_turn own_draws run
  column-own l y H =
      let b : ℕ = u * pairs n in
      let x : ℕ → ℕ = λ m. run (λ v x. bit_xor x (get_or z (b + (before n s + v)) 0)) m 0 in
      let g : u * n + s ≡ o = rw l (omega arith) in
      run_one (Has (n * span) o 0) (Has (n * span) o (x (n - suc s))) (pairs_of (spread_turn span z (u * n) b) n) n s hs
      (λ i hi e y H. row_keeps u b i hu hi (λ p q r. e (sym r)) (λ v p q r. omega arith) y H)
      (λ i hi e y H. row_keeps u b i hu hi (λ p q r. e (sym r)) (λ v p q r. omega arith) y H)
      (λ y H.
      run_holds (λ v y. Has (n * span) o (x v) y) (pair_turn (spread_turn span z (u * n) b) n s) (n - suc s)
      (λ v hv y H.
      xor_keeps ((s + 1 + v - s) * span + (u * n + (s + 1 + v))) _ (λ q. omega (arith, place_same u (s + 1 + v - s) (s + 1 + v) hu (omega arith) q))
      (xor_hits (u * n + s) _ g o_in H))
      y H)
      y H

-- ---- the row

module _ (n columns span : ℕ) (z c : List ℕ) (hc : n * span ≤ length c) (hw : columns * n ≤ span) (none : (o : ℕ) → get_or c o 0 ≡ 0) where
  pub spread_own : (u s : ℕ) → u < columns → s < n
      → get_or (spread_all n columns span z c) (u * n + s) 0 ≡ own_draws n (λ k. get_or z (u * pairs n + k) 0) s
  spread_own u s hu hs =
      let hd : 0 < n = omega arith in
      let e : u * n + s ≡ 0 * span + (u * n + s) = omega arith in
      rw e (all-columns n columns span z hw u 0 s hu hd hs _ (column-own n columns span z hw u 0 s hu hd hs refl) c (record { size = hc; at = none _ })).at

  pub spread_pair : (u s d : ℕ) → u < columns → s < n → 1 ≤ d → d ≤ s
      → get_or (spread_all n columns span z c) (d * span + (u * n + s)) 0 ≡ get_or z (u * pairs n + (before n (s - d) + (d - 1))) 0
  spread_pair u s d hu hs l m =
      let hd : d < n = omega arith in
      (all-columns n columns span z hw u d s hu hd hs _ (column-pair n columns span z hw u d s hu hd hs l m) c (record { size = hc; at = none _ })).at

  pub spread_none : (u s d : ℕ) → u < columns → s < d → d < n → get_or (spread_all n columns span z c) (d * span + (u * n + s)) 0 ≡ 0
  spread_none u s d hu l hd =
      let hs : s < n = omega arith in
      (all-columns n columns span z hw u d s hu hd hs _ (column_none n columns span z hw u d s hu hd hs l) c (record { size = hc; at = none _ })).at

pub spread-length : (n columns span : ℕ) (z c : List ℕ) → length (spread_all n columns span z c) ≡ length c
unfolding spread_all spread_column spread_turn
spread-length n columns span z c =
    run_length (spread_column n span z) (λ u y. over_length (spread_turn span z (u * n) (u * pairs n)) (λ k i j y. simp length-set) n y) columns c
