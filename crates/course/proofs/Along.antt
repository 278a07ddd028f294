-- What holds at every place of a solve, however it is driven: the steps that are left, and that what was counted and what they take make up
-- the whole list. At an end the counters are then the sums of 01: over the list, or up to the Check that stopped.
-- Assumes nothing.
use mathlib.Core.Bool.{Bool, true, false}
use mathlib.Core.List.{List, [], ◌∷◌, ◌++◌, append-nil}
use mathlib.Core.Path.{◌≡◌, refl, ap}
use Prim.Native.Nat.{ℕ, ◌<◌, ◌≤◌, ◌+◌}
use native.Mathlib.Omega.{arith}
use lib.Dec.{ltb, eqb}
use lib.ListN.{length, length-append}
use Rattle.field.specs.Field.{pick}
use Rattle.course.specs.declared.Step.{Step}
use Rattle.course.specs.declared.Step.TheVariants.{Mix, Check, Scale, Clear, Open, Lift}
use Rattle.course.specs.declared.Place.{Place}
use Rattle.course.specs.declared.Place.TheVariants.{At, Stopped, Done}
use Rattle.course.specs.declared.Order.{Order}
use Rattle.course.specs.declared.Counts.{Counts}
use Rattle.course.specs.StepList.{step_list, up_to, in_list, mask_cost, nonzero_cost, sum_over, sums, full_mask, full_nonzero}
use Rattle.course.specs.Next.{first_of, following, Chain}
use Rattle.course.proofs.Within.{within}
use Rattle.course.proofs.Chain.{unique, chain as list-chain, tail, tail-chain, list_split}
use Rattle.course.proofs.Members.{AllIn, all_in}
use Rattle.course.proofs.Sums.{sum-append}

pub either : {A : Type 0} (P : A → Type 0) (b : Bool) {x y : A} → P x → P y → P (pick b x y)
either P true a b = a
either P false a b = b

-- a stopped place stands before the Scale that it does not come to
abbrev pub resume : Place → Place
resume (At s) = At s
resume (Stopped j) = At (Scale j)
resume Done = Done

-- a place that is not a stop
abbrev pub Calm : Place → Type 0
Calm (At s) = Unit
Calm (Stopped j) = ⊥
Calm Done = Unit

pub calm_resume : (p : Place) → Calm p → resume p ≡ p
calm_resume (At s) c = refl
calm_resume (Stopped j) c = absurd c
calm_resume Done c = refl

pub first_calm : (m j : ℕ) → Calm (first_of m j)
unfolding first_of
first_calm m j = either Calm (ltb j m) tt tt

module _ (m : ℕ) where
  -- a step that opens 0 does not stop
  pub after_calm : (s : Step) → Calm (following m s 0)
  unfolding following
  after_calm (Mix j k) = either Calm (ltb k m) tt tt
  after_calm (Check j) = tt
  after_calm (Scale j) = either Calm (ltb j m) tt tt
  after_calm (Clear j k) = either Calm (ltb k m) tt (first_calm m (j + 1))
  after_calm (Open j) = either Calm (ltb 1 j) tt tt
  after_calm (Lift j) = tt

  -- whatever a step opened, the same steps are left
  pub resume-after : (s : Step) (x : ℕ) → resume (following m s x) ≡ following m s 0
  unfolding following
  resume-after (Mix j k) x = calm_resume _ (after_calm (Mix j k))
  resume-after (Check j) x = either (λ p. resume p ≡ At (Scale j)) (eqb x 1) refl refl
  resume-after (Scale j) x = calm_resume _ (after_calm (Scale j))
  resume-after (Clear j k) x = calm_resume _ (after_calm (Clear j k))
  resume-after (Open j) x = calm_resume _ (after_calm (Open j))
  resume-after (Lift j) x = refl

  -- the first step left is the one at the place
  pub first : (s : Step) (rest : List Step) → Chain m (At s) rest Done → (more : List Step) × (rest ≡ s ∷ more) × Chain m (following m s 0) more Done
  first s [] h = let z : ◌≡◌ {A = ℕ} 0 1 = cc in absurd (let n : ⊥ = omega arith in n)
  first s (x ∷ xs) h = let e : s ≡ x = cc in rw e (xs, refl, h.1)

  -- and none is left when all is done
  pub none : (rest : List Step) → Chain m Done rest Done → rest ≡ []
  none [] h = refl
  none (x ∷ xs) h = let z : ◌≡◌ {A = ℕ} 0 1 = cc in absurd (let n : ⊥ = omega arith in n)

-- k steps, a mask draws and b nonzero draws
abbrev pub told : ℕ → ℕ → ℕ → Counts
told k a b = record { steps = k; mask = a; nonzero = b }

-- the steps left at a place, and what was counted before
pub record Along (o : Order) (p : Place) (k a b : ℕ) : Type 0 where
  pub rest : List Step
  pub leads : Chain o.size (resume p) rest Done
  pub inside : AllIn o.size rest
  pub steps : k + length rest ≡ length (step_list o.size)
  pub mask : a + sum_over (mask_cost o) rest ≡ full_mask o
  pub nonzero : b + sum_over (nonzero_cost o) rest ≡ full_nonzero o

module _ (o : Order) where
  pub start_along : 1 ≤ o.size → Along o (first_of o.size 1) 0 0 0
  start_along some = record {
    rest = step_list o.size;
    leads = rw (calm_resume (first_of o.size 1) (first_calm o.size 1)) (list-chain o.size some);
    inside = all_in o.size;
    steps = omega arith;
    mask = omega arith;
    nonzero = omega arith;
  }

  pub start_rest : (some : 1 ≤ o.size) → (start_along some).rest ≡ step_list o.size
  unfolding start_along
  start_rest some = refl

  module _ {s : Step} {k a b : ℕ} where
    -- a place that is a step is one of the list
    pub along_in : Along o (At s) k a b → in_list o.size s ≡ true
    along_in g = (rw (first o.size s g.rest g.leads).1 at g.inside).0

    -- and there is room for its draws
    pub room_along : Along o (At s) k a b
        → (k < length (step_list o.size)) × (a + mask_cost o s ≤ full_mask o) × (b + nonzero_cost o s ≤ full_nonzero o)
    unfolding sum_over
    room_along g =
        let e = (first o.size s g.rest g.leads).1 in
        (omega (arith, g.steps, ap length e), omega (arith, g.mask, ap (sum_over (mask_cost o)) e), omega (arith, g.nonzero, ap (sum_over (nonzero_cost o)) e))

    pub turn_along : Along o (At s) k a b → (x : ℕ) → Along o (following o.size s x) (k + 1) (a + mask_cost o s) (b + nonzero_cost o s)
    unfolding sum_over
    turn_along g x =
        let f = first o.size s g.rest g.leads in
        record {
          rest = f.0;
          leads = rw (resume-after o.size s x) f.2;
          inside = (rw f.1 at g.inside).1;
          steps = omega (arith, g.steps, ap length f.1);
          mask = omega (arith, g.mask, ap (sum_over (mask_cost o)) f.1);
          nonzero = omega (arith, g.nonzero, ap (sum_over (nonzero_cost o)) f.1);
        }

    -- one step less is left
    pub turn_rest : (g : Along o (At s) k a b) (x : ℕ) → g.rest ≡ s ∷ (turn_along g x).rest
    unfolding turn_along
    turn_rest g x = (first o.size s g.rest g.leads).1

  module _ {k a b : ℕ} where
    counted : {p : Place} (l : List Step) (g : Along o p k a b) → step_list o.size ≡ l ++ g.rest → told k a b ≡ sums o l
    unfolding sums
    counted l g e =
        let x : k ≡ length l = omega (arith, g.steps, ap length e, length-append l g.rest) in
        let y : a ≡ sum_over (mask_cost o) l = omega (arith, g.mask, ap (sum_over (mask_cost o)) e, sum-append (mask_cost o) l g.rest) in
        let z : b ≡ sum_over (nonzero_cost o) l = omega (arith, g.nonzero, ap (sum_over (nonzero_cost o)) e, sum-append (nonzero_cost o) l g.rest) in
        rw (x, y, z)

    -- a solve that is done has counted the whole list
    pub counted_done : Along o Done k a b → told k a b ≡ sums o (step_list o.size)
    counted_done g = counted (step_list o.size) g (rw (none o.size g.rest g.leads, append-nil))

    -- the column of a stop
    pub stop_in : {j : ℕ} → Along o (Stopped j) k a b → (1 ≤ j) × (j ≤ o.size)
    stop_in {j} g = within o.size (Scale j) (rw (first o.size (Scale j) g.rest g.leads).1 at g.inside).0

    -- and a solve that stopped at column j has counted every step up to and including Check(j)
    pub counted_stop : {j : ℕ} → Along o (Stopped j) k a b → told k a b ≡ sums o (up_to o.size j)
    counted_stop {j} g =
        let w = stop_in g in
        let e : g.rest ≡ tail o.size j = unique o.size _ _ _ g.leads (tail-chain o.size j w.0 w.1) in
        counted (up_to o.size j) g (rw e (list_split o.size j w.0 w.1))
