-- R-2's calls, refused by the definitions: F16, two shares, two equations. Of what a step is lent the first that is wrong in its order is told;
-- of a table and of values the cell. R-5's records, by their counters. And R-7's Lift, by the byte of the solution that it reads.
-- Assumes nothing.
use mathlib.Core.List.{List, [], ◌∷◌, map}
use mathlib.Core.Path.{◌≡◌, refl}
use Prim.Native.Nat.{ℕ}
use Rattle.field.specs.Field.{F16, field_of}
use Rattle.sharing.specs.Rules.{sum, inversion_draws}
use Rattle.flag.specs.Flag.{folds, fold_draws}
use Rattle.table.specs.Layout.{cell, part, table_bytes}
use Rattle.table.specs.Costs.{mix_cost, check_cost, scale_cost, scale_nonzero, clear_cost, open_cost}
use Rattle.course.specs.declared.Step.TheVariants.{Mix, Check, Scale, Open, Lift}
use Rattle.course.specs.declared.Place.{Place}
use Rattle.course.specs.declared.Place.TheVariants.{At, Stopped, Done}
use Rattle.course.specs.declared.Progress.{Progress}
use Rattle.course.specs.StepList.{each, column, columns, openings, step_list, up_to, sum_over, in_list, cost_of, cost_in, revealed_by}
use Rattle.course.specs.Taken.{before_step, steps_before, taken_at}
use Rattle.course.specs.Next.{record_at_of, counted}
use Rattle.verdict.specs.Told.{Told, passed, refused, line, ◌or◌}
use Rattle.verdict.specs.Cells.{cell_at}
use Rattle.verdict.specs.Refusals.{outside, first_place, too_large, zero_draw, no1, no2, no3, no4, no5, no6, no7, no8, no9, no14, no15, numbers, buffers, exactly}
use Rattle.solver.specs.Refusals.{placed, ended, entries, cost_at, zero_pivot, column_of, no10, no11, lift_refused, no20, no12, no19, deal_order, gather_order, solve_order, standing, placing, lending, step_order}
use Rattle.solver.specs.Calls.{order}

-- the record, the table's last share, the second byte of the solution, the length of the mask tape, the nonzero bytes; and what the checks say
pub record Row : Type 0 where
  pub at : Progress
  pub last : ℕ
  pub second : ℕ
  pub mask : ℕ
  pub nonzero : List ℕ
  pub told : Told

abbrev read : Progress → ℕ → ℕ → ℕ → List ℕ → Told → Row
read at last second mask nonzero told = record { at = at; last = last; second = second; mask = mask; nonzero = nonzero; told = told }

-- where the solution is not read
abbrev row : Progress → ℕ → ℕ → List ℕ → Told → Row
row at last mask nonzero told = read at last 238 mask nonzero told

-- a record at a place, with its two counters
abbrev at : Place → ℕ → ℕ → Progress
at place mask nonzero = record_at_of (order 16 2 2) place mask nonzero

abbrev refusal : ℕ → List ℕ → Told
refusal k d = refused (line k d)

-- rows (0,1) and (1,0), with b = (5,7) where the last share is 8
abbrev table : ℕ → List ℕ
table last = 4 ∷ 4 ∷ 4 ∷ 5 ∷ 10 ∷ 15 ∷ 3 ∷ 2 ∷ 10 ∷ 10 ∷ 15 ∷ last ∷ []

abbrev says : Row → Told
says r = step_order r.at (table r.last) (238 ∷ r.second ∷ []) r.mask r.nonzero

pub rows : List Row
rows =
    row (at (At (Mix 1 2)) 0 0) 16 6 [] (refusal 6 (2 ∷ 3 ∷ 2 ∷ []))
    ∷ row (at (At (Mix 1 2)) 0 0) 8 6 [] (refusal 7 (7 ∷ []))
    ∷ row (at (At (Mix 1 2)) 0 0) 8 8 [] (refusal 14 (7 ∷ []))
    ∷ row (at (At (Mix 1 2)) 0 0) 8 8 (186 ∷ []) (refusal 14 (7 ∷ []))
    ∷ row (at (At (Mix 1 2)) 0 0) 8 7 (186 ∷ []) (refusal 15 (0 ∷ []))
    ∷ row (at (At (Mix 1 2)) 0 0) 8 7 [] passed
    ∷ row (at (At (Scale 1)) 12 0) 8 9 [] (refusal 14 (8 ∷ []))
    ∷ row (at (At (Scale 1)) 12 0) 8 8 [] (refusal 8 (1 ∷ []))
    ∷ row (at (At (Scale 1)) 12 0) 8 8 (186 ∷ 186 ∷ []) (refusal 15 (1 ∷ []))
    ∷ row (at (At (Scale 1)) 12 0) 8 8 (16 ∷ 186 ∷ []) (refusal 15 (1 ∷ []))
    ∷ row (at (At (Scale 1)) 12 0) 8 8 (16 ∷ []) (refusal 9 (0 ∷ []))
    ∷ row (at (At (Scale 1)) 12 0) 8 8 (186 ∷ []) (refusal 12 (1 ∷ 1 ∷ 0 ∷ []))
    ∷ row (at (At (Check 1)) 7 1) 16 0 [] (refusal 19 (0 ∷ []))
    ∷ row (at (At (Check 1)) 7 0) 8 5 [] passed
    ∷ row (at (At (Scale 1)) 7 0) 8 8 (186 ∷ []) (refusal 19 (0 ∷ []))
    ∷ row (at (Stopped 1) 12 0) 8 0 [] (refusal 11 (0 ∷ []))
    ∷ row (at (Stopped 2) 28 1) 8 0 [] (refusal 11 (0 ∷ []))
    ∷ row (at (Stopped 2) 23 1) 8 0 [] (refusal 19 (0 ∷ []))
    ∷ row (at Done 35 2) 16 0 [] (refusal 19 (0 ∷ []))
    ∷ row (at Done 36 2) 16 0 [] (refusal 11 (0 ∷ []))
    ∷ row (at (At (Mix 2 2)) 0 0) 16 0 [] (refusal 10 (0 ∷ []))
    ∷ row (at (At (Mix 2 2)) 18446744073709551615 18446744073709551615) 16 0 [] (refusal 10 (0 ∷ []))
    ∷ row (at (At (Check 1)) 18446744073709551615 18446744073709551615) 8 5 [] (refusal 19 (0 ∷ []))
    ∷ read (at (At (Lift 2)) 35 2) 8 15 0 [] passed
    ∷ read (at (At (Lift 2)) 35 2) 8 16 0 [] (refusal 20 (2 ∷ []))
    ∷ read (at (At (Lift 2)) 35 2) 8 16 1 [] (refusal 14 (0 ∷ []))
    ∷ read (at (At (Lift 2)) 35 2) 8 16 0 (16 ∷ []) (refusal 15 (0 ∷ []))
    ∷ read (at (At (Lift 2)) 35 2) 16 16 0 [] (refusal 6 (2 ∷ 3 ∷ 2 ∷ []))
    ∷ read (at (At (Lift 2)) 34 2) 8 16 0 [] (refusal 19 (0 ∷ []))
    ∷ read (at (At (Open 1)) 35 2) 8 16 1 [] passed
    ∷ row (at (At (Lift 1)) 36 2) 8 0 [] (refusal 10 (0 ∷ []))
    ∷ row (at (At (Lift 3)) 35 2) 8 0 [] (refusal 10 (0 ∷ []))
    ∷ []

pub examples : map says rows ≡ map (λ (r : Row). r.told) rows
unfolding rows F16 field_of sum inversion_draws folds fold_draws cell part table_bytes mix_cost scale_cost scale_nonzero in_list cost_of cost_in revealed_by ◌or◌ cell_at outside first_place too_large zero_draw no1 no2 no3 no4 no5 no6 no7 no8 no9 no14 no15 numbers placed ended entries cost_at zero_pivot column_of each column columns openings step_list up_to sum_over before_step steps_before taken_at counted check_cost clear_cost open_cost no10 no11 lift_refused no20 no12 no19 standing placing exactly lending step_order
examples = refl

-- the last byte is 16: of the table that Gather and Solve read, and of Deal's values
pub last_cells : gather_order (order 16 2 2) (table 16) 6 ∷ solve_order (order 16 2 2) (table 16) 2 0 [] ∷ deal_order (order 16 2 2) (0 ∷ 1 ∷ 5 ∷ 1 ∷ 0 ∷ 16 ∷ []) 12 0 ∷ []
    ≡ refusal 6 (2 ∷ 3 ∷ 2 ∷ []) ∷ refusal 6 (2 ∷ 3 ∷ 2 ∷ []) ∷ refusal 6 (2 ∷ 3 ∷ 0 ∷ []) ∷ []
unfolding F16 field_of table_bytes ◌or◌ cell_at outside first_place too_large no1 no2 no3 no4 no5 no6 numbers buffers entries gather_order solve_order deal_order
last_cells = refl
