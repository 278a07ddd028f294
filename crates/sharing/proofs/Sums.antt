-- What the small rules do to the value of a sharing, the sum of its shares: for any number of shares, over any ring.
-- Nothing here uses a + a = 0.
-- Assumes nothing.
use mathlib.Core.Path.{◌≡◌, refl, sym, ap, ap₂, ◌∙◌, subst}
use Prim.Native.Nat.{ℕ, zero, suc, ◌+◌, ◌-◌, ◌%◌, ◌<◌}
use mathlib.Core.List.{List, [], ◌∷◌, ◌++◌}
use native.Mathlib.Omega.{arith}
use native.Mathlib.Nat.{not-suc-le-zero, le_of_suc-le-suc}
use lib.ListN.{length, get_or, length-set}
use Rattle.field.specs.Field.{Ops, Ring, sub}
use Rattle.sharing.specs.Run.{run, tab, pair_turn, pairs_of, over_pairs, before}
use Rattle.sharing.specs.Rules.{sum, draw_at, add_at, sub_at, refresh_turn, refresh, product_turn, product_over, crossed, product, pair_refresh_turn, pair_refresh, opening, scaled}
use Rattle.sharing.specs.Lists.{joined}
use Rattle.sharing.proofs.Rings.{zero-add-lt, add-zero-lt, left_comm, swap4, neg-add, sub_back, neg_sum, neg-zero, mul-zero, add-mul}
use Rattle.sharing.proofs.Pairs.{tab-length, tab_ext, tab_list, run_holds}

-- s has n shares, and the value v
record Adds (F : Ops) (n v : ℕ) (s : List ℕ) : Type 0 where
  size : length s ≡ n
  value : sum F s ≡ v

-- what is still to be summed, from its end on, and v
unfoldable pub onto : Ops → ℕ → List ℕ → ℕ
onto F v [] = v
onto F v (x ∷ s) = F.add x (onto F v s)

pub onto-sum : (F : Ops) (s : List ℕ) → onto F 0 s ≡ sum F s
unfolding onto sum
onto-sum F [] = refl
onto-sum F (x ∷ s) = ap (F.add x) (onto-sum F s)

pub onto-none : (F : Ops) (v : ℕ) (s : List ℕ) → length s ≡ 0 → onto F v s ≡ v
unfolding onto
onto-none F v [] e = refl
onto-none F v (x ∷ s) e = absurd (omega (arith, e))

pub onto-last : (F : Ops) (v x : ℕ) (s : List ℕ) → onto F v (s ++ (x ∷ [])) ≡ onto F (F.add x v) s
unfolding onto
onto-last F v x [] = refl
onto-last F v x (y ∷ s) = ap (F.add y) (onto-last F v x s)

module _ (F : Ops) (R : Ring F) where
  pub sum_lt : (s : List ℕ) → sum F s < F.q
  unfolding sum
  sum_lt [] = R.pos
  sum_lt (x ∷ s) = R.add_lt x (sum F s)

  pub sum-add_at : (i v : ℕ) (s : List ℕ) → i < length s → sum F (add_at F i v s) ≡ F.add (sum F s) v
  unfolding sum
  sum-add_at i v [] h = absurd (not-suc-le-zero h)
  sum-add_at zero v (x ∷ s) h =
      R.add_assoc x v (sum F s) ∙ ap (F.add x) (R.add_comm v (sum F s)) ∙ sym (R.add_assoc x (sum F s) v)
  sum-add_at (suc i) v (x ∷ s) h =
      ap (F.add x) (sum-add_at i v s (le_of_suc-le-suc h)) ∙ sym (R.add_assoc x (sum F s) v)

  -- ---- sums of what stands at each place

  sum_none : (n : ℕ) → sum F (tab n (λ i. 0)) ≡ 0
  unfolding sum
  sum_none zero = refl
  sum_none (suc n) = ap (F.add 0) (sum_none n) ∙ zero-add-lt F R R.pos

  sum-last : (k : ℕ) (g : ℕ → ℕ) → sum F (tab (suc k) g) ≡ F.add (sum F (tab k g)) (g k)
  unfolding sum
  sum-last zero g = R.add_comm (g 0) 0
  sum-last (suc k) g = ap (F.add (g 0)) (sum-last k (λ i. g (suc i))) ∙ sym (R.add_assoc (g 0) _ (g (suc k)))

  sum_both : (n : ℕ) (g h : ℕ → ℕ) → sum F (tab n (λ i. F.add (g i) (h i))) ≡ F.add (sum F (tab n g)) (sum F (tab n h))
  unfolding sum
  sum_both zero g h = sym (zero-add-lt F R R.pos)
  sum_both (suc n) g h =
      ap (F.add (F.add (g 0) (h 0))) (sum_both n (λ i. g (suc i)) (λ i. h (suc i))) ∙ swap4 F R (g 0) (h 0) _ _

  sum-neg : (n : ℕ) (g : ℕ → ℕ) → sum F (tab n (λ i. F.neg (g i))) ≡ F.neg (sum F (tab n g))
  unfolding sum
  sum-neg zero g = sym (neg-zero F R)
  sum-neg (suc n) g = ap (F.add (F.neg (g 0))) (sum-neg n (λ i. g (suc i))) ∙ sym (neg_sum F R (g 0) _)

  sum-times : (n z : ℕ) (g : ℕ → ℕ) → sum F (tab n (λ i. F.mul z (g i))) ≡ F.mul z (sum F (tab n g))
  unfolding sum
  sum-times zero z g = sym (mul-zero F R z)
  sum-times (suc n) z g = ap (F.add (F.mul z (g 0))) (sum-times n z (λ i. g (suc i))) ∙ sym (R.mul-add z (g 0) _)

  -- ---- loops: what the turns add, all in all

  run_adds : (n : ℕ) (turn : ℕ → List ℕ → List ℕ) (g : ℕ → ℕ) (m : ℕ)
      → ((k : ℕ) → k < m → (v : ℕ) (s : List ℕ) → Adds F n v s → Adds F n (F.add v (g k)) (turn k s))
      → (v : ℕ) (s : List ℕ) → Adds F n v s → Adds F n (F.add v (sum F (tab m g))) (run turn m s)
  unfolding sum
  run_adds n turn g m h v s a =
      run_holds (λ (k : ℕ) (t : List ℕ). Adds F n (F.add v (sum F (tab k g))) t) turn m
      (λ k l t p.
      let q : Adds F n (F.add (F.add v (sum F (tab k g))) (g k)) (turn k t) = h k l _ t p in
      record { size = q.size; value = q.value ∙ R.add_assoc v (sum F (tab k g)) (g k) ∙ ap (F.add v) (sym (sum-last k g)) })
      s
      (record { size = a.size; value = sym (add-zero-lt F R (sum_lt s)) ∙ ap (λ (x : ℕ). F.add x 0) a.value })

  -- the sum over the pairs i < j of n places
  double : (ℕ → ℕ → ℕ) → ℕ → ℕ
  double g zero = 0
  double g (suc n) = F.add (sum F (tab n (λ u. g 0 (suc u)))) (double (λ i j. g (suc i) (suc j)) n)

  -- as the loop takes them
  double-rows : (n : ℕ) (g : ℕ → ℕ → ℕ) → sum F (tab n (λ i. sum F (tab (n - suc i) (λ u. g i (i + 1 + u))))) ≡ double g n
  unfolding sum double
  double-rows zero g = refl
  double-rows (suc n) g =
      ap₂ F.add
      (ap (sum F) (first (λ u. g 0 (0 + 1 + u)) (λ u. g 0 (suc u)) (suc n - suc 0) n (omega arith) (λ u. ap (g 0) (omega arith))))
      (ap (sum F) (tab_ext n (λ i l.
      ap (sum F) (first (λ u. g (suc i) (suc i + 1 + u)) (λ u. g (suc i) (suc (i + 1 + u))) (suc n - suc (suc i)) (n - suc i) (omega arith) (λ u. ap (g (suc i)) (omega arith)))))
      ∙ double-rows n (λ i j. g (suc i) (suc j)))
    where
      first : (g h : ℕ → ℕ) (m k : ℕ) → m ≡ k → ((u : ℕ) → g u ≡ h u) → tab m g ≡ tab k h
      first g h m k e f = ap (λ (x : ℕ). tab x g) e ∙ tab_ext k (λ i l. f i)

  over_adds : (n : ℕ) (turn : ℕ → ℕ → ℕ → List ℕ → List ℕ) (g : ℕ → ℕ → ℕ)
      → ((k i j : ℕ) → i < n → j < n → (v : ℕ) (s : List ℕ) → Adds F n v s → Adds F n (F.add v (g i j)) (turn k i j s))
      → (v : ℕ) (s : List ℕ) → Adds F n v s → Adds F n (F.add v (double g n)) (over_pairs turn n s)
  unfolding over_pairs
  over_adds n turn g h v s a =
      subst (λ (x : ℕ). Adds F n (F.add v x) (over_pairs turn n s)) (double-rows n g)
      (run_adds n (pairs_of turn n) (λ i. sum F (tab (n - suc i) (λ u. g i (i + 1 + u)))) n
      (λ i hi w t.
      run_adds n (pair_turn turn n i) (λ u. g i (i + 1 + u)) (n - suc i)
      (λ u hu. h (before n i + u) i (i + 1 + u) hi (omega arith)) w t)
      v s a)

  -- a turn that adds x to one share and y to another
  two_shares : (n i j x y v : ℕ) (s : List ℕ) → i < n → j < n → Adds F n v s
      → Adds F n (F.add v (F.add x y)) (add_at F j y (add_at F i x s))
  two_shares n i j x y v s hi hj a =
      let l : length (add_at F i x s) ≡ n = length-set s i _ ∙ a.size in
      let g : i < length s = rw a.size hi in
      let k : j < length (add_at F i x s) = rw l hj in
      record {
        size = length-set (add_at F i x s) j _ ∙ l;
        value = sum-add_at j y (add_at F i x s) k ∙ ap (λ (t : ℕ). F.add t y) (sum-add_at i x s g ∙ ap (λ (t : ℕ). F.add t x) a.value)
            ∙ R.add_assoc v x y;
      }

  -- ---- Refresh, pair refresh and Opening keep the value

  -- a draw added to one share and taken from another
  masked : (n i j r v : ℕ) (s : List ℕ) → i < n → j < n → Adds F n v s → Adds F n (F.add v 0) (sub_at F j r (add_at F i r s))
  masked n i j r v s hi hj a =
      subst (λ (x : ℕ). Adds F n (F.add v x) (sub_at F j r (add_at F i r s))) (R.add-neg r) (two_shares n i j r (F.neg r) v s hi hj a)

  itself : (s : List ℕ) → Adds F (length s) (sum F s) s
  itself s = record { size = refl; value = refl }

  -- no share is asked for: Refresh of an empty list does nothing
  pub sum-refresh : (ds s : List ℕ) → sum F (refresh F ds s) ≡ sum F s
  unfolding refresh refresh_turn
  sum-refresh ds s =
      (run_adds (length s) (refresh_turn F ds) (λ k. 0) (length s - 1)
      (λ k h v t a. masked (length s) (k + 1) 0 (draw_at F ds k) v t (omega arith) (omega arith) a) (sum F s) s (itself s)).value
      ∙ ap (F.add (sum F s)) (sum_none (length s - 1))
      ∙ add-zero-lt F R (sum_lt s)

  double_none : (n : ℕ) → double (λ i j. 0) n ≡ 0
  unfolding double
  double_none zero = refl
  double_none (suc n) = ap₂ F.add (sum_none n) (double_none n) ∙ zero-add-lt F R R.pos

  pub sum-pair_refresh : (ds s : List ℕ) → sum F (pair_refresh F ds s) ≡ sum F s
  unfolding pair_refresh pair_refresh_turn
  sum-pair_refresh ds s =
      (over_adds (length s) (pair_refresh_turn F ds) (λ i j. 0)
      (λ k i j hi hj v t a. masked (length s) i j (draw_at F ds k) v t hi hj a) (sum F s) s (itself s)).value
      ∙ ap (F.add (sum F s)) (double_none (length s))
      ∙ add-zero-lt F R (sum_lt s)

  pub opening-value : (ds s : List ℕ) → opening F ds s ≡ sum F s
  unfolding opening
  opening-value ds s = sum-pair_refresh ds s

  -- ---- Product

  -- the draw goes out again
  unmask : (x z y : ℕ) → F.add (F.neg z) (F.add (F.add x z) y) ≡ F.add x y
  unmask x z y =
      ap (F.add (F.neg z)) (ap (λ (t : ℕ). F.add t y) (R.add_comm x z) ∙ R.add_assoc z x y) ∙ neg-add F R z (R.add_lt x y)

  -- whatever the products of single shares are: the value is the sum of them all
  product_over_adds : (Z : ℕ → ℕ) (P : ℕ → ℕ → ℕ) (n : ℕ)
      → sum F (product_over F Z P n) ≡ F.add (sum F (tab n (λ i. P i i))) (double (λ i j. F.add (P i j) (P j i)) n)
  unfolding product_over product_turn
  product_over_adds Z P n =
      (over_adds n (product_turn F Z P) (λ i j. F.add (P i j) (P j i))
      (λ k i j hi hj v t a.
      subst (λ (x : ℕ). Adds F n (F.add v x) (product_turn F Z P k i j t)) (unmask (P i j) (Z k) (P j i))
      (two_shares n i j (F.neg (Z k)) (F.add (F.add (P i j) (Z k)) (P j i)) v t hi hj a))
      (sum F (tab n (λ i. P i i)))
      (tab n (λ i. P i i))
      (record { size = tab-length n (λ i. P i i); value = refl })
      ).value

  -- (x + u)(y + w), from its four parts
  four : (x y u w p r d : ℕ) → r ≡ F.add (F.mul x w) (F.mul u y) → F.add p d ≡ F.mul u w
      → F.add (F.add (F.mul x y) p) (F.add r d) ≡ F.mul (F.add x u) (F.add y w)
  four x y u w p r d e f =
      rw (e, R.add_assoc (F.mul x w) (F.mul u y) d, swap4 F R (F.mul x y) p (F.mul x w), left_comm F R p (F.mul u y) d, f)
      (sym (add-mul F R x u (F.add y w) ∙ ap₂ F.add (R.mul-add x y w) (R.mul-add u y w)))

  -- the product of two sums, by the squares and the pairs
  squares : (n : ℕ) (a b : ℕ → ℕ)
      → F.add (sum F (tab n (λ i. F.mul (a i) (b i)))) (double (λ i j. F.add (F.mul (a i) (b j)) (F.mul (a j) (b i))) n)
      ≡ F.mul (sum F (tab n a)) (sum F (tab n b))
  unfolding sum double
  squares zero a b = zero-add-lt F R R.pos ∙ sym (mul-zero F R 0)
  squares (suc n) a b =
      four (a 0) (b 0) _ _ _ _ _
      (sum_both n (λ j. F.mul (a 0) (b (suc j))) (λ j. F.mul (a (suc j)) (b 0))
      ∙ ap₂ F.add (sum-times n (a 0) (λ j. b (suc j)))
      (ap (sum F) (tab_ext n (λ j l. R.mul_comm (a (suc j)) (b 0))) ∙ sum-times n (b 0) (λ j. a (suc j)) ∙ R.mul_comm (b 0) _))
      (squares n (λ i. a (suc i)) (λ i. b (suc i)))

  listed : (a : List ℕ) → sum F (tab (length a) (λ i. get_or a i 0)) ≡ sum F a
  listed a = ap (sum F) (tab_list a)

  -- whatever the draws are
  pub sum-product_over : (Z : ℕ → ℕ) (a b : List ℕ) → length b ≡ length a
      → sum F (product_over F Z (crossed F.mul a b) (length a)) ≡ F.mul (sum F a) (sum F b)
  sum-product_over Z a b e =
      product_over_adds Z (crossed F.mul a b) (length a) ∙ squares (length a) (λ i. get_or a i 0) (λ i. get_or b i 0)
      ∙ ap₂ F.mul (listed a) (ap (λ (n : ℕ). sum F (tab n (λ i. get_or b i 0))) (sym e) ∙ listed b)

  pub sum-product : (ds a b : List ℕ) → length b ≡ length a → sum F (product F ds a b) ≡ F.mul (sum F a) (sum F b)
  unfolding product
  sum-product ds a b e = sum-product_over (draw_at F ds) a b e

  -- ---- share by share

  pub sum-scaled : (z : ℕ) (s : List ℕ) → sum F (scaled F z s) ≡ F.mul z (sum F s)
  unfolding sum scaled
  sum-scaled z [] = sym (mul-zero F R z)
  sum-scaled z (x ∷ s) = ap (F.add (F.mul z x)) (sum-scaled z s) ∙ sym (R.mul-add z x (sum F s))

  pub sum-joined-add : (s v : List ℕ) → length v ≡ length s → sum F (joined F.add s v) ≡ F.add (sum F s) (sum F v)
  unfolding joined
  sum-joined-add s v e =
      sum_both (length s) (λ i. get_or s i 0) (λ i. get_or v i 0)
      ∙ ap₂ F.add (listed s) (ap (λ (n : ℕ). sum F (tab n (λ i. get_or v i 0))) (sym e) ∙ listed v)

  pub sum-joined-sub : (s v : List ℕ) → length v ≡ length s → sum F (joined (sub F) s v) ≡ sub F (sum F s) (sum F v)
  unfolding joined
  sum-joined-sub s v e =
      sum_both (length s) (λ i. get_or s i 0) (λ i. F.neg (get_or v i 0))
      ∙ ap₂ F.add (listed s)
      (sum-neg (length s) (λ i. get_or v i 0) ∙ ap F.neg (ap (λ (n : ℕ). sum F (tab n (λ i. get_or v i 0))) (sym e) ∙ listed v))

  -- Deal: the first share is what the others leave of the value
  pub sum-dealt : (v : ℕ) (xs : List ℕ) → sum F (sub F v (sum F xs) ∷ xs) ≡ v % F.q
  unfolding sum
  sum-dealt v xs = sub_back F R v (sum F xs)

-- And: the same law, in the ring of words with bitwise and
