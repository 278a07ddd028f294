-- 01's examples of desk's line, each by computation. Those that 01 gives as counts or as a refusal are here as the line that says so.
-- Assumes nothing.
use mathlib.Core.List.{List, [], ◌∷◌, map}
use mathlib.Core.Path.{◌≡◌, refl}
use Prim.Native.Nat.{ℕ}
use Prim.Native.String.{String}
use Rattle.table.specs.Costs.{mix_cost, check_cost, scale_cost, scale_nonzero, clear_cost, open_cost}
use Rattle.course.specs.StepList.{each, column, columns, openings, step_list, cost_of, cost_in, sum_over, sums}
use Rattle.verdict.specs.Told.{◌or◌}
use Rattle.verdict.specs.Refusals.{outside, no1, no2, no3, numbers}
use Rattle.verdict.specs.Calls.{call}
use Rattle.solver.specs.Calls.{counts_call}
use Rattle.desk_line.specs.Text.{ascii, spelled, decimal}
use Rattle.desk_line.specs.Line.{refused_line, counts_line, desk_line}
use Rattle.sharing.specs.Rules.{inversion_draws}
use Rattle.flag.specs.Flag.{folds, fold_draws}

pub record Row : Type 0 where
  pub input : List ℕ
  pub line : String

abbrev row : List ℕ → String → Row
row input line = record { input = input; line = line }

pub rows : List Row
rows =
    -- n=2, m=1; blank shares; F256, n=4, m=96 (01 has 9,408 steps, which R-7 overrules, and 3,778,608 mask draws, which R-6 does)
    row (0x00 ∷ 0x10 ∷ 0x02 ∷ 0x01 ∷ []) "3 12 1\n"
    ∷ row (0x00 ∷ 0x10 ∷ 0x00 ∷ 0x01 ∷ []) "refused 2\n"
    ∷ row (0x01 ∷ 0x00 ∷ 0x04 ∷ 0x60 ∷ []) "9503 3820512 288\n"
    -- no bytes, three and five
    ∷ row [] "refused 13\n"
    ∷ row (0x00 ∷ 0x10 ∷ 0x02 ∷ []) "refused 13\n"
    ∷ row (0x00 ∷ 0x10 ∷ 0x02 ∷ 0x01 ∷ 0x00 ∷ []) "refused 13\n"
    -- 13 comes first, then 1: field 7 and shares 0 together
    ∷ row (0x00 ∷ 0x07 ∷ 0x00 ∷ []) "refused 13\n"
    ∷ row (0x00 ∷ 0x07 ∷ 0x00 ∷ 0x01 ∷ []) "refused 1\n"
    -- the field's low byte first is another number
    ∷ row (0x10 ∷ 0x00 ∷ 0x02 ∷ 0x01 ∷ []) "refused 1\n"
    -- shares 1 and 5; sizes 0 and 97
    ∷ row (0x00 ∷ 0x10 ∷ 0x01 ∷ 0x01 ∷ []) "refused 2\n"
    ∷ row (0x00 ∷ 0x10 ∷ 0x05 ∷ 0x01 ∷ []) "refused 2\n"
    ∷ row (0x00 ∷ 0x10 ∷ 0x02 ∷ 0x00 ∷ []) "refused 3\n"
    ∷ row (0x00 ∷ 0x10 ∷ 0x02 ∷ 0x61 ∷ []) "refused 3\n"
    -- n=2, m=2 (01 has 8 steps, which R-7 overrules); n=3, m=1 (01 has 35 mask draws, which R-6 overrules); F256, n=2, m=1
    ∷ row (0x00 ∷ 0x10 ∷ 0x02 ∷ 0x02 ∷ []) "9 36 2\n"
    ∷ row (0x00 ∷ 0x10 ∷ 0x03 ∷ 0x01 ∷ []) "3 37 2\n"
    ∷ row (0x01 ∷ 0x00 ∷ 0x02 ∷ 0x01 ∷ []) "3 14 1\n"
    ∷ []

pub examples : map (λ (r : Row). desk_line r.input) rows ≡ map (λ (r : Row). ascii r.line) rows
unfolding rows ascii spelled decimal refused_line counts_line desk_line call counts_call outside no1 no2 no3 numbers ◌or◌ folds fold_draws inversion_draws mix_cost check_cost scale_cost scale_nonzero clear_cost open_cost each column columns openings step_list cost_of cost_in sum_over sums
examples = refl
