-- What `products` leaves at row d, below byte o of the row: what stood there, joined by the byte's product with one share of the factor.
-- Assumes nothing.
use mathlib.Core.Path.{◌≡◌, refl, ap, ◌∙◌}
use Prim.Native.Nat.{ℕ, suc, ◌+◌, ◌-◌, ◌*◌, ◌<◌, ◌≤◌}
use mathlib.Core.List.{List}
use native.Mathlib.Omega.{arith}
use native.Mathlib.Decide.{ℕ_discrete}
use native.Mathlib.Nat.{suc-mul, le_refl}
use lib.Bits.{bit_xor}
use lib.ListN.{length, get_or, length-set}
use lib.Seq.{get_or-set_same, get_or-set_other}
use Rattle.sharing.proofs.Pairs.{run_holds}
use Rattle.row.proofs.Places.{place_in, same_row, same_place}
use Rattle.row.specs.Code.Products.{term, byte_turn, byte_products, product_byte_turn, block_products, all_products}

-- ---- a byte

module _ (bits n r span : ℕ) (m : List ℕ) (y o q : ℕ) (c : List ℕ) (lc : n * span ≤ length c) (ho : o < span) where
  -- after k rows
  record Rows (k : ℕ) (s : List ℕ) : Type 0 where
    size : n * span ≤ length s
    done : (d : ℕ) → d < k → get_or s (d * span + o) 0 ≡ bit_xor (get_or c (d * span + o) 0) (term m r bits (q + n - d) y)
    left : (d p : ℕ) → p < span → (p ≡ o → k ≤ d) → get_or s (d * span + p) 0 ≡ get_or c (d * span + p) 0

  rows_next : (k : ℕ) → k < n → (s : List ℕ) → Rows k s → Rows (suc k) (byte_turn bits n r span m y o q k s)
  unfolding byte_turn
  rows_next k hk s D =
      record {
        size = simp length-set D.size;
        done = λ d hd. elim (ℕ_discrete d k) [
          | yes z ↦ rw z (get_or-set_same s (k * span + o) _ 0 (omega (arith, D.size, place_in n span k o hk ho))
              ∙ ap (λ (x : ℕ). bit_xor x (term m r bits (q + n - k) y)) (D.left k o ho (λ e. le_refl k)))
          | no z ↦ get_or-set_other s (k * span + o) (d * span + o) _ 0 (λ e. z (same_row span d o k o ho ho e)) ∙ D.done d (omega arith)
        ];
        left = λ d p hp f. get_or-set_other s (k * span + o) (d * span + p) _ 0
            (λ e. omega (arith, same_row span d p k o hp ho e, f (same_place span d p k o hp ho e)))
            ∙ D.left d p hp (λ e. omega (arith, f e));
      }

  rows : Rows n (byte_products bits n r span m y o q c)
  unfolding byte_products
  rows =
      run_holds Rows (byte_turn bits n r span m y o q) n rows_next c
      (record { size = lc; done = λ d hd. absurd (omega arith); left = λ d p hp f. refl })

-- ---- the row

module _ (bits n l r blocks span : ℕ) (b m c : List ℕ) (lc : n * span ≤ length c) (hw : blocks * l ≤ span) where
  -- after k bytes
  record Bytes (k : ℕ) (s : List ℕ) : Type 0 where
    size : n * span ≤ length s
    done : (d u q : ℕ) → d < n → u < blocks → q < l → u * l + q < k
        → get_or s (d * span + (u * l + q)) 0 ≡ bit_xor (get_or c (d * span + (u * l + q)) 0) (term m r bits (q + n - d) (get_or b (u * l + q) 0))
    left : (d o : ℕ) → o < span → k ≤ o → get_or s (d * span + o) 0 ≡ get_or c (d * span + o) 0

  bytes_next : (u q : ℕ) → u < blocks → q < l → (k : ℕ) → k ≡ suc (u * l + q) → (s : List ℕ) → Bytes (u * l + q) s
      → Bytes k (product_byte_turn bits n r span b m (u * l) q s)
  bytes_next u q hu hq k e s D =
      let ho : u * l + q < span = omega (arith, place_in blocks l u q hu hq) in
      let R = rows bits n r span m (get_or b (u * l + q) 0) (u * l + q) q s D.size ho in
      record {
        size = R.size;
        done = λ d v t hd hv ht h. elim (ℕ_discrete (v * l + t) (u * l + q)) [
          | yes z ↦
              let x : v ≡ u = same_row l v t u q ht hq z in
              let y : t ≡ q = same_place l v t u q ht hq z in
              rw (x, y) (R.done d hd ∙ ap (λ (x : ℕ). bit_xor x (term m r bits (q + n - d) (get_or b (u * l + q) 0))) (D.left d (u * l + q) ho (le_refl _)))
          | no z ↦ R.left d (v * l + t) (omega (arith, place_in blocks l v t hv ht)) (λ g. absurd (z g)) ∙ D.done d v t hd hv ht (omega arith)
        ];
        left = λ d p hp h. R.left d p hp (λ g. absurd (omega arith)) ∙ D.left d p hp (omega arith);
      }

  bytes : Bytes (blocks * l) (all_products bits n l r blocks span b m c)
  unfolding all_products block_products
  bytes =
      run_holds (λ (u : ℕ) (s : List ℕ). Bytes (u * l) s) (block_products bits n l r span b m) blocks
      (λ u hu s D.
      let e : suc u * l ≡ u * l + l = suc-mul u l in
      rw e
      (run_holds (λ (q : ℕ) (t : List ℕ). Bytes (u * l + q) t) (product_byte_turn bits n r span b m (u * l)) l
      (λ q hq t D. bytes_next u q hu hq (u * l + suc q) (omega arith) t D) s
      (let z : u * l + 0 ≡ u * l = omega arith in rw z D)))
      c
      (record { size = lc; done = λ d u q hd hu hq h. absurd (omega arith); left = λ d o ho h. refl })

  pub products_at : (d u q : ℕ) → d < n → u < blocks → q < l
      → get_or (all_products bits n l r blocks span b m c) (d * span + (u * l + q)) 0
      ≡ bit_xor (get_or c (d * span + (u * l + q)) 0) (term m r bits (q + n - d) (get_or b (u * l + q) 0))
  products_at d u q hd hu hq = bytes.done d u q hd hu hq (place_in blocks l u q hu hq)
