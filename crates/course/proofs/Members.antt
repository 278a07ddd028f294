-- Which steps are in the list: those that the closed test takes, and no others. So refusal 10's "place not in the step list" is that test.
-- Assumes nothing.
use mathlib.Core.Bool.{true}
use mathlib.Core.List.Memᴰ
use mathlib.Core.List.{List, [], ◌∷◌, ◌++◌, Memᴰ}
use mathlib.Core.Path.{◌≡◌, refl, ap}
use Prim.Native.Nat.{ℕ, zero, suc, ◌<◌, ◌≤◌, ◌+◌, ◌-◌}
use native.Mathlib.Decide.{ℕ_discrete}
use native.Mathlib.Omega.{arith}
use Rattle.course.specs.declared.Step.{Step}
use Rattle.course.specs.declared.Step.TheVariants.{Mix, Check, Scale, Clear, Open, Lift}
use Rattle.course.specs.StepList.{each, column, columns, openings, step_list, in_list}
use Rattle.course.proofs.Within.{Within, within, in_list_lem}

-- every step of a list passes the test
abbrev pub AllIn : ℕ → List Step → Type 0
AllIn m [] = Unit
AllIn m (s ∷ l) = (in_list m s ≡ true) × AllIn m l

module _ (m : ℕ) where
  all_append : (a b : List Step) → AllIn m a → AllIn m b → AllIn m (a ++ b)
  all_append [] b h g = g
  all_append (s ∷ a) b h g = (h.0, all_append a b h.1 g)

  -- f a, .., f m, where f of each row below j passes
  all-each : (f : ℕ → Step) (j : ℕ) → ((k : ℕ) → j < k → k ≤ m → Within m (f k)) → (n a : ℕ) → j < a → a + n ≤ m + 1 → AllIn m (each f a n)
  unfolding each
  all-each f j h zero a l e = tt
  all-each f j h (suc n) a l e = (in_list_lem m (f a) (h a l (omega arith)), all-each f j h n (a + 1) (omega arith) (omega arith))

  all-column : (j : ℕ) → 1 ≤ j → j ≤ m → AllIn m (column m j)
  unfolding column
  all-column j a b =
      all_append (each (Mix j) (j + 1) (m - j)) _ (all-each (Mix j) j (λ k l e. (a, l, e)) (m - j) (j + 1) (omega arith) (omega arith))
      (in_list_lem m (Check j) (a, b), (in_list_lem m (Scale j) (a, b), all-each (Clear j) j (λ k l e. (a, l, e)) (m - j) (j + 1) (omega arith) (omega arith)))

  all-columns : (n j : ℕ) → 1 ≤ j → j + n ≤ m + 1 → AllIn m (columns m j n)
  unfolding columns
  all-columns zero j a e = tt
  all-columns (suc n) j a e =
      all_append (column m j) (columns m (j + 1) n) (all-column j a (omega arith)) (all-columns n (j + 1) (omega arith) (omega arith))

  all-openings : (n : ℕ) → n ≤ m → AllIn m (openings n)
  unfolding openings
  all-openings zero e = tt
  all-openings (suc zero) e = (in_list_lem m (Open 1) (omega arith, e), tt)
  all-openings (suc (suc n)) e =
      (in_list_lem m (Open (suc (suc n))) (omega arith, e), (in_list_lem m (Lift (suc (suc n))) (omega arith, e), all-openings (suc n) (omega arith)))

  pub all_in : AllIn m (step_list m)
  unfolding step_list
  all_in = all_append (columns m 1 m) (openings m) (all-columns m 1 (omega arith) (omega arith)) (all-openings m (omega arith))

  passes : {s : Step} (l : List Step) → AllIn m l → Memᴰ s l → in_list m s ≡ true
  passes {s = s} [] h x'' = elim x'' [ ]
  passes (x ∷ l) h (Memᴰ.head e) = rw e h.0
  passes (x ∷ l) h (Memᴰ.tail d) = passes l h.1 d

  pub unlisted : (s : Step) → Memᴰ s (step_list m) → in_list m s ≡ true
  unlisted s d = passes (step_list m) all_in d

  each-has : (f : ℕ → Step) (k n a : ℕ) → a ≤ k → k < a + n → Memᴰ (f k) (each f a n)
  unfolding each
  each-has f k zero a h g = absurd (let n : ⊥ = omega arith in n)
  each-has f k (suc n) a h g = elim (ℕ_discrete k a) [
    | yes e ↦ Memᴰ.head (ap f e)
    | no d ↦ Memᴰ.tail (each-has f k n (a + 1) (omega (arith, d)) (omega arith))
  ]

  openings_have : (k n : ℕ) → 1 ≤ k → k ≤ n → Memᴰ (Open k) (openings n)
  unfolding openings
  openings_have k zero h g = absurd (let n : ⊥ = omega arith in n)
  openings_have k (suc zero) h g = let e : k ≡ 1 = omega arith in Memᴰ.head (ap Open e)
  openings_have k (suc (suc n)) h g = elim (ℕ_discrete k (suc (suc n))) [
    | yes e ↦ Memᴰ.head (ap Open e)
    | no d ↦ Memᴰ.tail (Memᴰ.tail (openings_have k (suc n) h (omega (arith, d))))
  ]

  lifts_have : (k n : ℕ) → 2 ≤ k → k ≤ n → Memᴰ (Lift k) (openings n)
  unfolding openings
  lifts_have k zero h g = absurd (let n : ⊥ = omega arith in n)
  lifts_have k (suc zero) h g = absurd (let n : ⊥ = omega arith in n)
  lifts_have k (suc (suc n)) h g = elim (ℕ_discrete k (suc (suc n))) [
    | yes e ↦ Memᴰ.tail (Memᴰ.head (ap Lift e))
    | no d ↦ Memᴰ.tail (Memᴰ.tail (lifts_have k (suc n) h (omega (arith, d))))
  ]

  columns_have : (s : Step) (i n j : ℕ) → j ≤ i → i < j + n → Memᴰ s (column m i) → Memᴰ s (columns m j n)
  unfolding columns
  columns_have s i zero j h g c = absurd (let n : ⊥ = omega arith in n)
  columns_have s i (suc n) j h g c = elim (ℕ_discrete i j) [
    | yes e ↦ Memᴰ.append_left (columns m (j + 1) n) (rw e at c)
    | no d ↦ Memᴰ.append_right (column m j) (columns_have s i n (j + 1) (omega (arith, d)) (omega arith) c)
  ]

  list_has : (s : Step) (j : ℕ) → 1 ≤ j → j ≤ m → Memᴰ s (column m j) → Memᴰ s (step_list m)
  unfolding step_list
  list_has s j a b c = Memᴰ.append_left (openings m) (columns_have s j m 1 a (omega arith) c)

  has : (s : Step) → Within m s → Memᴰ s (step_list m)
  unfolding column step_list
  has (Mix j k) w =
      list_has (Mix j k) j w.0 (omega arith)
      (Memᴰ.append_left _ (each-has (Mix j) k (m - j) (j + 1) (omega arith) (omega arith)))
  has (Check j) w = list_has (Check j) j w.0 w.1 (Memᴰ.append_right (each (Mix j) (j + 1) (m - j)) (Memᴰ.head refl))
  has (Scale j) w =
      list_has (Scale j) j w.0 w.1
      (Memᴰ.append_right (each (Mix j) (j + 1) (m - j)) (Memᴰ.tail (Memᴰ.head refl)))
  has (Clear j k) w =
      list_has (Clear j k) j w.0 (omega arith)
      (Memᴰ.append_right (each (Mix j) (j + 1) (m - j)) (Memᴰ.tail (Memᴰ.tail (each-has (Clear j) k (m - j) (j + 1) (omega arith) (omega arith)))))
  has (Open j) w = Memᴰ.append_right (columns m 1 m) (openings_have j m w.0 w.1)
  has (Lift j) w = Memᴰ.append_right (columns m 1 m) (lifts_have j m w.0 w.1)

  pub listed : (s : Step) → in_list m s ≡ true → Memᴰ s (step_list m)
  listed s h = has s (within m s h)
