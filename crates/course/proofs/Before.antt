-- The steps before a place, told by the next place: before the first place there are none, and each step, when it is taken, is added at their
-- end. So the draws taken so far grow by the step's own, and are the whole sum when all is done.
-- Assumes nothing.
use mathlib.Core.Bool.{Bool, true, false}
use mathlib.Core.List.{List, [], ◌∷◌, ◌++◌, Memᴰ, append_assoc, append-nil}
use mathlib.Core.Path.{◌≡◌, refl, sym, ap, ◌∙◌}
use Prim.Native.Nat.{ℕ, zero, suc, ◌<◌, ◌≤◌, ◌+◌, ◌-◌, ◌*◌}
use native.Mathlib.Omega.{arith}
use lib.Dec.{ltb, eqb}
use lib.ListN.{take}
use lib.Seq.{take_all}
use borrow.Author.Tests.{ltb-true, ltb-false}
use Rattle.field.specs.Field.{pick}
use Rattle.course.specs.declared.Step.{Step}
use Rattle.course.specs.declared.Step.TheVariants.{Mix, Check, Scale, Clear, Open, Lift}
use Rattle.course.specs.declared.Place.{Place}
use Rattle.course.specs.declared.Place.TheVariants.{At, Done}
use Rattle.course.specs.declared.Order.{Order}
use Rattle.course.specs.StepList.{each, column, columns, openings, step_list, up_to, in_list, draws, mask_cost, nonzero_cost, sum_over, full_mask, full_nonzero}
use Rattle.course.specs.Taken.{before_step, steps_before, taken_at}
use Rattle.course.specs.Next.{first_of, following, Chain}
use Rattle.course.proofs.Within.{within, column_listed}
use Rattle.course.proofs.Members.{AllIn, all_in, listed}
use Rattle.course.proofs.Chain.{chain, columns_split, check-last}
use Rattle.course.proofs.Sums.{openings-length, sum-append}
use Rattle.course.proofs.Along.{either}

-- one more of a run is its next one, at the end
pub each_snoc : (f : ℕ → Step) (n a b k : ℕ) → b ≡ suc n → k ≡ a + n → each f a b ≡ each f a n ++ (f k ∷ [])
unfolding each
each_snoc f zero a b k e g =
    let x : k ≡ a = omega arith in
    rw (e, x)
each_snoc f (suc n) a b k e g =
    rw (e, each_snoc f n (a + 1) (suc n) k refl (omega arith))

-- what comes after an Open and a Lift for each of d unknowns are the openings of the j that are left
openings_split : (d a n j : ℕ) → j + d ≡ n → 1 ≤ j → take (2 * d + a) (openings n) ≡ take (2 * d) (openings n) ++ take a (openings j)
unfolding openings
openings_split zero a n j e l =
    let x : j ≡ n = omega arith in
    let y : 2 * 0 + a ≡ a = omega arith in
    rw (x, y)
openings_split (suc d) a zero j e l = absurd (let n : ⊥ = omega arith in n)
openings_split (suc d) a (suc zero) j e l = absurd (let n : ⊥ = omega arith in n)
openings_split (suc d) a (suc (suc n)) j e l =
    let x : 2 * suc d + a ≡ suc (suc (2 * d + a)) = omega arith in
    let y : 2 * suc d ≡ suc (suc (2 * d)) = omega arith in
    rw (x, y) (ap (λ (k : List Step). Open (suc (suc n)) ∷ Lift (suc (suc n)) ∷ k) (openings_split d a (suc n) j (omega arith) l))

first_open : (j : ℕ) → 1 ≤ j → take 1 (openings j) ≡ Open j ∷ []
unfolding openings
first_open zero l = absurd (let n : ⊥ = omega arith in n)
first_open (suc zero) l = refl
first_open (suc (suc n)) l = refl

first-lift : (j : ℕ) → 2 ≤ j → take 2 (openings j) ≡ Open j ∷ Lift j ∷ []
unfolding openings
first-lift zero l = absurd (let n : ⊥ = omega arith in n)
first-lift (suc zero) l = absurd (let n : ⊥ = omega arith in n)
first-lift (suc (suc n)) l = refl

-- so there comes Open(j), and then Lift(j) where j is not 1
pub open_next : (d n j : ℕ) → j + d ≡ n → 1 ≤ j → take (2 * d + 1) (openings n) ≡ take (2 * d) (openings n) ++ (Open j ∷ [])
open_next d n j e l = rw (openings_split d 1 n j e l, first_open j l)

lift-next : (d n j : ℕ) → j + d ≡ n → 2 ≤ j → take (2 * d + 2) (openings n) ≡ take (2 * d + 1) (openings n) ++ (Lift j ∷ [])
lift-next d n j e l =
    rw (openings_split d 2 n j e (omega arith), first-lift j l, open_next d n j e (omega arith)) (simp append_assoc)

-- by whether k is below m
pub by_less : {A : Type 0} (P : A → Type 0) (k m : ℕ) {x y : A} → (k < m → P x) → (m ≤ k → P y) → P (pick (ltb k m) x y)
by_less P k m {x} {y} a b = by (ltb k m) refl
  where
    by : (t : Bool) → ltb k m ≡ t → P (pick t x y)
    by true e = a (ltb-true k m e)
    by false e = b (ltb-false k m e)

module _ (m : ℕ) where
  pub none_first : steps_before m (first_of m 1) ≡ []
  unfolding steps_before before_step first_of columns each
  none_first =
      by_less (λ (p : Place). steps_before m p ≡ []) 1 m (λ l. refl)
      (λ l. let z : m - 1 ≡ 0 = omega arith in rw z)

  -- the columns up to j, with column j written out
  pub column-last : (j d : ℕ) → 1 ≤ j → j + d ≡ m
      → columns m 1 j ≡ up_to m j ++ (Scale j ∷ each (Clear j) (j + 1) d)
  unfolding columns column up_to
  column-last j d a e =
      let z : m - j ≡ d = omega arith in
      simp (append_assoc, append-nil, z, columns_split m (j - 1) 1 1 j j (omega arith) (omega arith))

  -- where the next column begins
  column-first : (j : ℕ) → 1 ≤ j → j < m → steps_before m (first_of m (j + 1)) ≡ columns m 1 j
  unfolding steps_before before_step first_of each
  column-first j a l =
      by_less (λ (p : Place). steps_before m p ≡ columns m 1 j) (j + 1) m
      (λ h.
      let x : j + 1 - 1 ≡ j = omega arith in
      let y : j + 1 + 1 - (j + 1) - 1 ≡ 0 = omega arith in
      rw (x, y, append-nil))
      (λ h.
      let x : j + 1 - 1 ≡ j = omega arith in
      let y : m - (j + 1) ≡ 0 = omega arith in
      rw (x, y, append-nil))

  -- a step that is taken comes last of the steps before the next place
  pub added : (s : Step) (x : ℕ) → in_list m s ≡ true → steps_before m (following m s x) ≡ steps_before m (At s) ++ (s ∷ [])
  unfolding following steps_before before_step step_list each
  added (Mix j k) x h =
      let w = within m (Mix j k) h in
      by_less (λ (p : Place). steps_before m p ≡ steps_before m (At (Mix j k)) ++ (Mix j k ∷ [])) k m
      (λ l. simp (append_assoc, each_snoc (Mix j) (k - j - 1) (j + 1) (k + 1 - j - 1) k (omega arith) (omega arith)))
      (λ l. simp (append_assoc, each_snoc (Mix j) (k - j - 1) (j + 1) (m - j) k (omega arith) (omega arith)))
  added (Check j) x h =
      either (λ (p : Place). steps_before m p ≡ steps_before m (At (Check j)) ++ (Check j ∷ [])) (eqb x 1) (check-last m j) (check-last m j)
  added (Scale j) x h =
      let w = within m (Scale j) h in
      by_less (λ (p : Place). steps_before m p ≡ steps_before m (At (Scale j)) ++ (Scale j ∷ [])) j m
      (λ l. let z : j + 1 - j - 1 ≡ 0 = omega arith in rw z)
      (λ l.
      let z : m - m ≡ 0 = omega arith in
      let e : j ≡ m = omega arith in
      rw (z, append-nil, e) (column-last m 0 (omega arith) (omega arith)))
  added (Clear j k) x h =
      let w = within m (Clear j k) h in
      by_less (λ (p : Place). steps_before m p ≡ steps_before m (At (Clear j k)) ++ (Clear j k ∷ [])) k m
      (λ l. simp (append_assoc, each_snoc (Clear j) (k - j - 1) (j + 1) (k + 1 - j - 1) k (omega arith) (omega arith)))
      (λ l.
      column-first j w.0 (omega arith)
      ∙ column-last j (m - j) w.0 (omega arith)
      ∙ simp (append_assoc, each_snoc (Clear j) (k - j - 1) (j + 1) (m - j) k (omega arith) (omega arith)))
  added (Open j) x h =
      let w = within m (Open j) h in
      let o = open_next (m - j) m j (omega arith) w.0 in
      by_less (λ (p : Place). steps_before m p ≡ steps_before m (At (Open j)) ++ (Open j ∷ [])) 1 j
      (λ l. rw o (simp append_assoc))
      (λ l. simp append_assoc (ap (λ (k : List Step). columns m 1 m ++ k) (sym (take_all (2 * (m - j) + 1) (openings m) (omega (arith, openings-length m))) ∙ o)))
  added (Lift j) x h =
      let w = within m (Lift j) h in
      let two : 2 * (m - (j - 1)) ≡ 2 * (m - j) + 2 = omega arith in
      rw (two, lift-next (m - j) m j (omega arith) w.0) (simp append_assoc)

  -- from place p, with the steps a before it, the list goes on with l: what comes before a step of l is a, and what of l comes first
  met : (s : Step) (p : Place) (a l : List Step) → Chain m p l Done → AllIn m l → steps_before m p ≡ a → Memᴰ s l
      → (rest : List Step) × (a ++ l ≡ before_step m s ++ (s ∷ rest))
  unfolding steps_before
  met s p a [] c i e d = elim d [ ]
  met s p a (t ∷ l) c i e (Memᴰ.head h) =
      let b : before_step m s ≡ a = rw h (sym (ap (steps_before m) c.0) ∙ e) in
      (l, rw (b, h))
  met s p a (t ∷ l) c i e (Memᴰ.tail d) =
      let b : steps_before m (At t) ≡ a = sym (ap (steps_before m) c.0) ∙ e in
      let n = met s (following m t 0) (a ++ (t ∷ [])) l c.1 i.1 (added t 0 i.0 ∙ ap (λ k. k ++ (t ∷ [])) b) d in
      (n.0, sym (append_assoc a (t ∷ []) l) ∙ n.1)

  -- so the list is what comes before a step, the step, and a rest
  pub split : (s : Step) → in_list m s ≡ true → (rest : List Step) × (step_list m ≡ before_step m s ++ (s ∷ rest))
  split s h =
      let w = column_listed m s h in
      met s (first_of m 1) [] (step_list m) (chain m (omega arith)) (all_in m) none_first (listed m s h)

module _ (o : Order) where
  -- nothing is taken before the first place
  pub taken-first : taken_at o (first_of o.size 1) ≡ draws 0 0
  unfolding taken_at sum_over
  taken-first = rw (none_first o.size)

  -- and a step adds its own draws
  pub taken-added : (s : Step) (x : ℕ) → in_list o.size s ≡ true
      → taken_at o (following o.size s x) ≡ draws ((taken_at o (At s)).mask + mask_cost o s) ((taken_at o (At s)).nonzero + nonzero_cost o s)
  unfolding taken_at sum_over
  taken-added s x h =
      let a = steps_before o.size (At s) in
      let y : sum_over (mask_cost o) (a ++ (s ∷ [])) ≡ sum_over (mask_cost o) a + mask_cost o s = omega (arith, sum-append (mask_cost o) a (s ∷ [])) in
      let z : sum_over (nonzero_cost o) (a ++ (s ∷ [])) ≡ sum_over (nonzero_cost o) a + nonzero_cost o s = omega (arith, sum-append (nonzero_cost o) a (s ∷ [])) in
      rw (added o.size s x h, y, z)

  -- and no more than the whole list takes
  pub taken_few : (s : Step) → in_list o.size s ≡ true
      → ((taken_at o (At s)).mask + mask_cost o s ≤ full_mask o) × ((taken_at o (At s)).nonzero + nonzero_cost o s ≤ full_nonzero o)
  unfolding taken_at steps_before sum_over
  taken_few s h =
      let k = split o.size s h in
      let a = before_step o.size s in
      rw k.1
      (omega (arith, sum-append (mask_cost o) a (s ∷ k.0)), omega (arith, sum-append (nonzero_cost o) a (s ∷ k.0)))
