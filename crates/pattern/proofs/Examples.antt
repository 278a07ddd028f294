-- R-8's figures, each row by computation: the draws that a whole solve wants, the counts of every pattern of two rows and three columns, the mask
-- draws before each place of one run and the run's places, and pivots that a place can and can't have.
-- Assumes nothing.
use mathlib.Core.Bool.{Bool, true, false, ◌&&◌}
use mathlib.Core.List.{List, [], ◌∷◌, ◌++◌, map}
use mathlib.Core.Path.{◌≡◌, refl}
use Prim.Native.Nat.{ℕ, ◌-◌}
use lib.ListN.{length, replicate}
use Rattle.table.specs.Costs.{mix_cost, check_cost, scale_cost, scale_nonzero, clear_cost, open_cost}
use Rattle.sharing.specs.Rules.{inversion_draws}
use Rattle.flag.specs.Flag.{folds, fold_draws}
use Rattle.course.specs.declared.Step.TheVariants.{Mix, Check, Scale, Clear, Open, Lift}
use Rattle.course.specs.declared.Counts.{Counts}
use Rattle.course.specs.StepList.{each, draws, cost_in, sum_over}
use Rattle.pattern.specs.declared.WideOrder.{WideOrder}
use Rattle.pattern.specs.declared.WidePlace.{WidePlace}
use Rattle.pattern.specs.declared.WidePlace.TheVariants.{At, Short, Done}
use Rattle.pattern.specs.declared.WideProgress.{WideProgress}
use Rattle.pattern.specs.Pivots.{before, row_of, last, has, ascends, zeros, with}
use Rattle.pattern.specs.PatternList.{cost_of, sought, taken, visit, visits, lifted, openings, pattern_list, sums, before_step, steps_before, taken_at, every_column, wanted}
use Rattle.pattern.specs.Next.{next_column, following, found_by, start_of, moved_on, kept, stands, placed, counted}

abbrev order : ℕ → ℕ → ℕ → WideOrder
order n m c = record { field = 16; shares = n; rows = m; columns = c }

abbrev counts : ℕ → ℕ → ℕ → Counts
counts k a b = record { steps = k; mask = a; nonzero = b }

pub wants : wanted (order 2 2 3) ∷ wanted (order 3 2 3) ∷ wanted (order 4 96 144) ∷ [] ≡ draws 71 2 ∷ draws 216 4 ∷ draws 12528144 288 ∷ []
unfolding folds fold_draws inversion_draws mix_cost check_cost scale_cost scale_nonzero clear_cost open_cost each cost_in cost_of sum_over sought taken every_column wanted
wants = refl

abbrev used : List ℕ → Counts
used ps = sums (order 2 2 3) (pattern_list 2 3 ps)

pub patterns : used [] ∷ used (1 ∷ []) ∷ used (2 ∷ []) ∷ used (3 ∷ []) ∷ used (1 ∷ 2 ∷ []) ∷ used (1 ∷ 3 ∷ []) ∷ used (2 ∷ 3 ∷ []) ∷ []
    ≡ counts 6 36 0 ∷ counts 6 37 1 ∷ counts 7 41 1 ∷ counts 8 44 1 ∷ counts 9 42 2 ∷ counts 10 45 2 ∷ counts 11 49 2 ∷ []
unfolding folds fold_draws inversion_draws mix_cost check_cost scale_cost scale_nonzero clear_cost open_cost each cost_in cost_of sum_over before row_of last has sought taken visit visits lifted openings pattern_list sums
patterns = refl

-- a run on 2 rows and 3 columns, told what each of its steps opens: the places that it comes to, with the mask draws and whether the record is one
-- that 10 and 19 pass
pub record Seen : Type 0 where
  pub place : WidePlace
  pub mask : ℕ
  pub sound : Bool

abbrev seen : WideProgress → Seen
seen p = record { place = p.place; mask = p.mask; sound = placed p && counted p }

abbrev onward : WidePlace → WideProgress → ℕ → WideProgress
onward (At s) p x = moved_on p s x
onward Short p x = p
onward Done p x = p

unfoldable pub course : WideProgress → List ℕ → List Seen
course p [] = seen p ∷ []
course p (x ∷ xs) = seen p ∷ course (onward p.place p x) xs

abbrev at : WidePlace → ℕ → Seen
at place mask = record { place = place; mask = mask; sound = true }

-- pivots 1 and 3: column 2 is passed over
pub run : course (start_of (order 2 2 3)) (0 ∷ 0 ∷ 0 ∷ 0 ∷ 1 ∷ 0 ∷ 0 ∷ 13 ∷ 0 ∷ 8 ∷ [])
    ≡ at (At (Mix 1 2)) 0 ∷ at (At (Check 1)) 8 ∷ at (At (Scale 1)) 13 ∷ at (At (Clear 1 2)) 23 ∷ at (At (Check 2)) 27 ∷ at (At (Check 3)) 32
    ∷ at (At (Scale 3)) 37 ∷ at (At (Open 3)) 43 ∷ at (At (Lift 3)) 44 ∷ at (At (Open 1)) 44 ∷ at Done 45 ∷ []
unfolding folds fold_draws inversion_draws mix_cost check_cost scale_cost scale_nonzero clear_cost open_cost each cost_in cost_of sum_over before row_of last has ascends zeros with sought taken visit visits lifted openings before_step steps_before taken_at next_column following found_by start_of moved_on kept stands placed counted course
run = refl

-- short at Clear(3,2): columns 1 and 2 are passed over, and row 2 has no column left
pub short_run : course (start_of (order 2 2 3)) (0 ∷ 1 ∷ 0 ∷ 1 ∷ 0 ∷ 0 ∷ 0 ∷ 0 ∷ [])
    ≡ at (At (Mix 1 2)) 0 ∷ at (At (Check 1)) 8 ∷ at (At (Mix 2 2)) 13 ∷ at (At (Check 2)) 20 ∷ at (At (Mix 3 2)) 25 ∷ at (At (Check 3)) 31
    ∷ at (At (Scale 3)) 36 ∷ at (At (Clear 3 2)) 42 ∷ at Short 44 ∷ []
unfolding folds fold_draws inversion_draws mix_cost check_cost scale_cost scale_nonzero clear_cost open_cost each cost_in cost_of sum_over before row_of last has ascends zeros with sought taken visit visits lifted openings before_step steps_before taken_at next_column following found_by start_of moved_on kept stands placed counted course
short_run = refl

-- 10: not ascending, outside, too many, an unused slot that is not 0
abbrev slots : List ℕ → List ℕ
slots ps = ps ++ replicate (96 - length ps) 0

abbrev record_at : ℕ → List ℕ → WidePlace → WideProgress
record_at found ps place =
    record { order = order 2 2 3; place = place; mask = 0; nonzero = 0; pivots = record { found = found; columns = slots ps } }

pub pivots : map placed (record_at 2 (1 ∷ 3 ∷ []) Done ∷ record_at 2 (3 ∷ 1 ∷ []) Done ∷ record_at 2 (1 ∷ 1 ∷ []) Done ∷ record_at 2 (1 ∷ 4 ∷ []) Done ∷ record_at 2 (0 ∷ 1 ∷ []) Done
    ∷ record_at 3 (1 ∷ 2 ∷ 3 ∷ []) Done ∷ record_at 1 (1 ∷ 3 ∷ []) Short ∷ record_at 1 (1 ∷ []) Short ∷ record_at 2 (1 ∷ 3 ∷ []) Short ∷ record_at 1 (1 ∷ []) Done ∷ [])
    ≡ true ∷ false ∷ false ∷ false ∷ false ∷ false ∷ false ∷ true ∷ false ∷ false ∷ []
unfolding before row_of last has ascends zeros kept stands placed
pivots = refl

-- and places: the Lift of the first pivot, a column before a pivot, a Scale that is not the last pivot's
pub places : map placed (record_at 2 (1 ∷ 3 ∷ []) (At (Lift 1)) ∷ record_at 2 (1 ∷ 3 ∷ []) (At (Lift 3)) ∷ record_at 2 (1 ∷ 3 ∷ []) (At (Lift 2)) ∷ record_at 2 (1 ∷ 3 ∷ []) (At (Open 2))
    ∷ record_at 1 (2 ∷ []) (At (Check 2)) ∷ record_at 1 (2 ∷ []) (At (Check 3)) ∷ record_at 1 (2 ∷ []) (At (Scale 1)) ∷ record_at 1 (2 ∷ []) (At (Clear 2 2)) ∷ record_at 1 (2 ∷ []) (At (Clear 2 1))
    ∷ record_at 0 [] (At (Mix 4 2)) ∷ record_at 0 [] (At (Mix 3 2)) ∷ record_at 0 [] (At (Mix 3 1)) ∷ record_at 1 (2 ∷ []) (At (Mix 3 2)) ∷ [])
    ≡ false ∷ true ∷ false ∷ false ∷ false ∷ true ∷ false ∷ true ∷ false ∷ false ∷ true ∷ false ∷ false ∷ []
unfolding before row_of last has ascends zeros kept stands placed
places = refl
