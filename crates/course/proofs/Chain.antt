-- The next place and the step list are tied: from the first place on, where no Check opens 1, a solve meets the steps of the list in order
-- and is then done. The part of the list after Check(j), at which a solve can stop, goes on from Scale(j).
-- Assumes nothing.
use mathlib.Core.Path.{◌≡◌, refl, sym, ◌∙◌, ap}
use mathlib.Core.List.{List, [], ◌∷◌, ◌++◌, append_assoc}
use Prim.Native.Nat.{ℕ, zero, suc, ◌<◌, ◌≤◌, ◌+◌, ◌-◌}
use native.Mathlib.Omega.{arith}
use lib.Dec.{ltb}
use borrow.Author.Tests.{lt-ltb, le-ltb}
use Rattle.field.specs.Field.{pick}
use Rattle.course.specs.declared.Step.{Step}
use Rattle.course.specs.declared.Step.TheVariants.{Mix, Check, Scale, Clear, Open}
use Rattle.course.specs.declared.Place.{Place}
use Rattle.course.specs.declared.Place.TheVariants.{At, Done}
use Rattle.course.specs.StepList.{each, column, columns, openings, step_list, up_to}
use Rattle.course.specs.Next.{first_of, following, Chain}

module _ (m : ℕ) where
  join : (p q r : Place) (a b : List Step) → Chain m p a q → Chain m q b r → Chain m p (a ++ b) r
  join p q r [] b h g = rw h g
  join p q r (x ∷ a) b h g = (h.0, join (following m x 0) q r a b h.1 g)

  -- the steps from a place on are determined by it
  pub unique : (p : Place) (a b : List Step) → Chain m p a Done → Chain m p b Done → a ≡ b
  unique p [] [] h g = refl
  unique p [] (y ∷ b) h g = let z : ◌≡◌ {A = ℕ} 0 1 = cc in absurd (let n : ⊥ = omega arith in n)
  unique p (x ∷ a) [] h g = let z : ◌≡◌ {A = ℕ} 0 1 = cc in absurd (let n : ⊥ = omega arith in n)
  unique p (x ∷ a) (y ∷ b) h g =
      let e : x ≡ y = cc in
      rw e (ap (λ (l : List Step). y ∷ l) (unique (following m y 0) a b (rw e at h.1) g.1))

  below : {A : Type 0} (k : ℕ) (x y : A) → k < m → pick (ltb k m) x y ≡ x
  below k x y l = rw (lt-ltb k m l)

  beyond : {A : Type 0} (k : ℕ) (x y : A) → m ≤ k → pick (ltb k m) x y ≡ y
  beyond k x y l = rw (le-ltb k m l)

  -- f a, .., f m, each of which leads to the next, and the last to e
  run_of : (f : ℕ → Step) (e : Place) → ((k : ℕ) → k < m → following m (f k) 0 ≡ At (f (k + 1))) → following m (f m) 0 ≡ e
      → (n a : ℕ) → a + n ≡ m → Chain m (At (f a)) (each f a (suc n)) e
  unfolding each
  run_of f e h l zero a s = let z : a ≡ m = omega arith in rw z (refl, l)
  run_of f e h l (suc n) a s = (refl, rw (h a (omega arith)) (run_of f e h l n (a + 1) (omega arith)))

  -- f (j+1), .., f m, or none
  part : (f : ℕ → Step) (q e : Place) → ((k : ℕ) → k < m → following m (f k) 0 ≡ At (f (k + 1)))
      → (j d : ℕ) → j + d ≡ m → (j < m → q ≡ At (f (j + 1))) → (j < m → following m (f m) 0 ≡ e) → (m ≤ j → q ≡ e) → Chain m q (each f (j + 1) d) e
  part f q e h j zero s a l b = unfold each in b (omega arith)
  part f q e h j (suc d) s a l b = rw (a (omega arith)) (run_of f e h (l (omega arith)) d (j + 1) (omega arith))

  -- the place after column j
  next_column : ℕ → Place
  next_column j = pick (ltb j m) (first_of m (j + 1)) (At (Open m))

  mixes : (j : ℕ) → j ≤ m → Chain m (first_of m j) (each (Mix j) (j + 1) (m - j)) (At (Check j))
  unfolding following first_of
  mixes j l = part (Mix j) _ _ (λ k s. below k _ _ s) j (m - j) (omega arith) (λ s. below j _ _ s) (λ s. beyond m _ _ (omega arith)) (λ s. beyond j _ _ s)

  clears : (j : ℕ) → j ≤ m → Chain m (following m (Scale j) 0) (each (Clear j) (j + 1) (m - j)) (next_column j)
  unfolding following next_column
  clears j l =
      part (Clear j) _ _ (λ k s. below k _ _ s) j (m - j) (omega arith) (λ s. below j _ _ s)
      (λ s. beyond m _ _ (omega arith) ∙ sym (below j _ _ s)) (λ s. beyond j _ _ s ∙ sym (beyond j _ _ s))

  column-chain : (j : ℕ) → j ≤ m → Chain m (first_of m j) (column m j) (next_column j)
  unfolding column following
  column-chain j l = join _ _ _ (each (Mix j) (j + 1) (m - j)) _ (mixes j l) (refl, (refl, clears j l))

  openings-chain : (k : ℕ) → 1 ≤ k → Chain m (At (Open k)) (openings k) Done
  unfolding openings following
  openings-chain zero l = absurd (let n : ⊥ = omega arith in n)
  openings-chain (suc zero) l = (refl, refl)
  openings-chain (suc (suc n)) l =
      let h : 1 < suc (suc n) = omega arith in
      let e : suc (suc n) - 1 ≡ suc n = omega arith in
      rw (lt-ltb 1 (suc (suc n)) h, e) (refl, (refl, openings-chain (suc n) (omega arith)))

  onward : 1 ≤ m → (n j : ℕ) → j + n ≡ m → Chain m (next_column j) (columns m (j + 1) n ++ openings m) Done
  unfolding columns next_column
  onward some zero j s = rw (beyond j (first_of m (j + 1)) (At (Open m)) (omega arith)) (openings-chain m some)
  onward some (suc n) j s =
      rw (below j (first_of m (j + 1)) (At (Open m)) (omega arith), append_assoc (column m (j + 1)) (columns m (j + 1 + 1) n) (openings m))
      (join _ _ _ (column m (j + 1)) _ (column-chain (j + 1) (omega arith)) (onward some n (j + 1) (omega arith)))

  pub chain : 1 ≤ m → Chain m (first_of m 1) (step_list m) Done
  unfolding step_list next_column
  chain some = rw (below 0 (first_of m 1) (At (Open m)) some) at (onward some m 0 (omega arith))

  -- the steps after Check(j)
  unfoldable pub tail : ℕ → List Step
  tail j = Scale j ∷ (each (Clear j) (j + 1) (m - j) ++ (columns m (j + 1) (m - j) ++ openings m))

  pub tail-chain : (j : ℕ) → 1 ≤ j → j ≤ m → Chain m (At (Scale j)) (tail j) Done
  unfolding tail
  tail-chain j a l = (refl, join _ _ _ (each (Clear j) (j + 1) (m - j)) _ (clears j l) (onward (omega arith) (m - j) j (omega arith)))

  pub columns_split : (n k a b c : ℕ) → b ≡ n + k → c ≡ a + n → columns m a b ≡ columns m a n ++ columns m c k
  unfolding columns
  columns_split zero k a b c e g =
      let x : b ≡ k = omega arith in
      let y : c ≡ a = omega arith in
      rw (x, y)
  columns_split (suc n) k a b c e g =
      let x : b ≡ suc (n + k) = omega arith in
      rw (x, append_assoc (column m a) (columns m (a + 1) n) (columns m c k), columns_split n k (a + 1) (n + k) c refl (omega arith))

  -- the list is what comes up to Check(j), and what comes after it
  pub list_split : (j : ℕ) → 1 ≤ j → j ≤ m → step_list m ≡ up_to m j ++ tail j
  unfolding step_list up_to tail columns column
  list_split j a b = simp (append_assoc, columns_split (j - 1) (suc (m - j)) 1 m j (omega arith) (omega arith))

  -- and Check(j) is the last of the first part
  pub check-last : (j : ℕ) → up_to m j ≡ columns m 1 (j - 1) ++ each (Mix j) (j + 1) (m - j) ++ (Check j ∷ [])
  unfolding up_to
  check-last j = simp append_assoc
