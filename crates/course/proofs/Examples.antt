-- The counts of 01's examples and of R-6's: steps, mask draws and nonzero draws, each row by computation. R-5's: the mask and nonzero draws
-- before each place, and records whose counters match and don't. And R-7's: the steps of a full solve, and which Lifts there are.
-- Assumes nothing.
use mathlib.Core.Bool.{Bool, true, false}
use mathlib.Core.List.{List, [], ◌∷◌}
use mathlib.Core.Path.{◌≡◌, refl}
use Prim.Native.Nat.{ℕ}
use lib.ListN.{length}
use Rattle.table.specs.Costs.{mix_cost, check_cost, scale_cost, scale_nonzero, clear_cost, open_cost}
use Rattle.course.specs.declared.Step.TheVariants.{Mix, Check, Scale, Clear, Open, Lift}
use Rattle.course.specs.declared.Place.{Place}
use Rattle.course.specs.declared.Place.TheVariants.{At, Stopped, Done}
use Rattle.course.specs.declared.Draws.{Draws}
use Rattle.course.specs.declared.Order.{Order}
use Rattle.course.specs.declared.Counts.{Counts}
use Rattle.course.specs.StepList.{each, column, columns, openings, step_list, up_to, in_list, draws, cost_of, cost_in, sum_over, sums}
use Rattle.course.specs.Taken.{before_step, steps_before, taken_at}
use Rattle.course.specs.Next.{record_at_of, counted}
use Rattle.sharing.specs.Rules.{inversion_draws}
use Rattle.flag.specs.Flag.{folds, fold_draws}

abbrev order : ℕ → ℕ → ℕ → Order
order q n m = record { field = q; shares = n; size = m }

abbrev full : ℕ → ℕ → ℕ → Counts
full q n m = sums (order q n m) (step_list m)

abbrev stopped : ℕ → ℕ → ℕ → ℕ → Counts
stopped q n m j = sums (order q n m) (up_to m j)

abbrev counts : ℕ → ℕ → ℕ → Counts
counts k a b = record { steps = k; mask = a; nonzero = b }

-- 01's, but for n = 3 and n = 4, where 01 has 35 and 3,778,608 mask draws, which R-6 overrules, and for the 8 and 9,408 steps of full solves of
-- two and of 96 equations, which R-7 overrules
pub figures : full 16 2 1 ∷ full 16 2 2 ∷ stopped 16 2 2 2 ∷ stopped 16 2 2 1 ∷ full 16 3 1 ∷ full 256 2 1 ∷ full 256 4 96 ∷ []
    ≡ counts 3 12 1 ∷ counts 9 36 2 ∷ counts 5 28 1 ∷ counts 2 12 0 ∷ counts 3 37 2 ∷ counts 3 14 1 ∷ counts 9503 3820512 288 ∷ []
unfolding folds fold_draws inversion_draws mix_cost check_cost scale_cost scale_nonzero clear_cost open_cost each column columns openings step_list up_to cost_of cost_in sum_over sums
figures = refl

-- R-6's
pub figures_by_pairs : full 16 3 2 ∷ stopped 16 3 2 1 ∷ stopped 16 3 2 2 ∷ full 256 3 1 ∷ full 16 4 1 ∷ full 256 4 1 ∷ []
    ≡ counts 9 110 4 ∷ counts 2 36 0 ∷ counts 5 85 2 ∷ counts 3 43 2 ∷ counts 3 75 3 ∷ counts 3 87 3 ∷ []
unfolding folds fold_draws inversion_draws mix_cost check_cost scale_cost scale_nonzero clear_cost open_cost each column columns openings step_list up_to cost_of cost_in sum_over sums
figures_by_pairs = refl

-- R-7's: m²+3m-1 steps, and a Lift(j) for j = 2..m
pub steps : length (step_list 1) ∷ length (step_list 2) ∷ length (step_list 3) ∷ length (step_list 96) ∷ [] ≡ 3 ∷ 9 ∷ 17 ∷ 9503 ∷ []
unfolding each column columns openings step_list
steps = refl

pub lifts : in_list 2 (Lift 0) ∷ in_list 2 (Lift 1) ∷ in_list 2 (Lift 2) ∷ in_list 2 (Lift 3) ∷ in_list 1 (Lift 1) ∷ []
    ≡ false ∷ false ∷ true ∷ false ∷ false ∷ []
unfolding in_list
lifts = refl

-- the places of two equations, in the list's order, and its ends
abbrev places : (Place → Draws) → List Draws
places f =
    f (At (Mix 1 2)) ∷ f (At (Check 1)) ∷ f (At (Scale 1)) ∷ f (At (Clear 1 2)) ∷ f (At (Check 2)) ∷ f (At (Scale 2)) ∷ f (At (Open 2)) ∷ f (At (Lift 2))
    ∷ f (At (Open 1)) ∷ f Done ∷ f (Stopped 1) ∷ f (Stopped 2) ∷ []

pub taken_16 : places (taken_at (order 16 2 2))
    ≡ draws 0 0 ∷ draws 7 0 ∷ draws 12 0 ∷ draws 20 1 ∷ draws 23 1 ∷ draws 28 1 ∷ draws 34 2 ∷ draws 35 2 ∷ draws 35 2 ∷ draws 36 2 ∷ draws 12 0 ∷ draws 28 1 ∷ []
unfolding folds fold_draws inversion_draws mix_cost check_cost scale_cost scale_nonzero clear_cost open_cost each column columns openings step_list up_to cost_of cost_in sum_over before_step steps_before taken_at
taken_16 = refl

pub taken_256 : places (taken_at (order 256 3 2))
    ≡ draws 0 0 ∷ draws 27 0 ∷ draws 48 0 ∷ draws 73 2 ∷ draws 82 2 ∷ draws 103 2 ∷ draws 122 4 ∷ draws 125 4 ∷ draws 125 4 ∷ draws 128 4 ∷ draws 48 0 ∷ draws 103 2 ∷ []
unfolding folds fold_draws inversion_draws mix_cost check_cost scale_cost scale_nonzero clear_cost open_cost each column columns openings step_list up_to cost_of cost_in sum_over before_step steps_before taken_at
taken_256 = refl

abbrev matches : Place → ℕ → ℕ → Bool
matches place mask nonzero = counted (record_at_of (order 16 2 2) place mask nonzero)

pub matched : matches (At (Check 1)) 7 0 ∷ matches (At (Check 1)) 7 1 ∷ matches Done 35 2 ∷ matches Done 36 2 ∷ matches (Stopped 2) 23 1 ∷ matches (Stopped 2) 28 1 ∷ []
    ≡ true ∷ false ∷ false ∷ true ∷ false ∷ true ∷ []
unfolding folds fold_draws inversion_draws mix_cost check_cost scale_cost scale_nonzero clear_cost open_cost each column columns openings step_list up_to cost_of cost_in sum_over before_step steps_before taken_at counted
matched = refl
