-- R-8's systems, solved whole by the definitions: the pivots that are found, the steps, mask draws and nonzero draws taken, the solution, and of two the
-- table, share for share. The values are dealt by the draws (3+5i) mod 16; the mask tape is 7+9i and the nonzero tape 1+(2+3i) mod 15.
-- Assumes nothing.
use mathlib.Core.List.{List, [], ◌∷◌, map}
use mathlib.Core.Path.{◌≡◌, refl}
use Prim.Native.Nat.{ℕ, zero, suc, ◌+◌, ◌*◌, ◌%◌}
use lib.ListN.{replicate}
use Rattle.field.specs.Poly.{times, left, product as polynomialProduct}
use Rattle.field.specs.Field.{F16, F256, field_of, bits, bitwise, inv, inverse_below}
use Rattle.sharing.specs.Run.{run, over_pairs}
use Rattle.sharing.specs.Lists.{joined}
use Rattle.sharing.specs.Rules.{sum, refresh_turn, refresh, product_turn, product_over, product, pair_refresh_turn, pair_refresh, opening, scaled, blind_turn, blinded, blinded_value, factors, inversion_draws}
use Rattle.flag.specs.Flag.{and_of, folds, fold_draws, shifted, fresh_shift, fold, low_bits, zero_flag}
use Rattle.table.specs.Layout.{cell, part, put}
use Rattle.table.specs.Steps.{over_columns, signed, join_turn, join_row, join_rows, mix, check, scale_turn, scale_row, factor_turn, scale_all, scale, clear, unknown_at, lift_turn, lift}
use Rattle.table.specs.Costs.{mix_cost, check_cost, scale_cost, scale_nonzero, clear_cost, open_cost}
use Rattle.course.specs.StepList.{each, cost_in, revealed_by, sum_over}
use Rattle.walk.specs.Act.{held, step_opens, step_leaves}
use Rattle.pattern.specs.declared.WideOrder.{WideOrder}
use Rattle.pattern.specs.Pivots.{before, row_of, last, with}
use Rattle.pattern.specs.PatternList.{cost_of}
use Rattle.pattern.specs.Next.{next_column, following, found_by, start_of, moved_on}
use Rattle.wide_walk.specs.declared.WideEnding.{WideEnding}
use Rattle.wide_walk.specs.declared.WideEnding.TheVariants.{Solved, Short}
use Rattle.wide_walk.specs.WideWalk.{opened, acted, walk, most_steps, conclude, solved, pattern_of}

-- 1 for solved and 0 for short, with the counters
abbrev told : WideEnding → List ℕ
told (Solved c) = 1 ∷ c.steps ∷ c.mask ∷ c.nonzero ∷ []
told (Short c) = 0 ∷ c.steps ∷ c.mask ∷ c.nonzero ∷ []

abbrev order : ℕ → ℕ → ℕ → WideOrder
order n m c = record { field = 16; shares = n; rows = m; columns = c }

-- start, start + step, .., k of them, modulo q
unfoldable pub counting : ℕ → ℕ → ℕ → ℕ → List ℕ
counting q start step zero = []
counting q start step (suc k) = start % q ∷ counting q (start + step) step k

-- the answer, the pivots and the solution of a table; a solution of 9s is lent
abbrev whole : ℕ → ℕ → ℕ → ℕ → List ℕ → List (List ℕ)
whole n m c k t =
    let h = held t (replicate c 9) in
    let ms = counting 256 7 9 k in
    let zs = map (λ (x : ℕ). x + 1) (counting 15 2 3 (m * 3)) in
    told (solved (order n m c) ms zs h).answer ∷ pattern_of (order n m c) ms zs h ∷ (solved (order n m c) ms zs h).left.solution ∷ []

abbrev table : ℕ → ℕ → ℕ → ℕ → List ℕ → List ℕ
table n m c k t = (solved (order n m c) (counting 256 7 9 k) (map (λ (x : ℕ). x + 1) (counting 15 2 3 (m * 3))) (held t (replicate c 9))).left.table

pub answers : whole 2 1 2 22 (3 ∷ 3 ∷ 11 ∷ 8 ∷ 8 ∷ 13 ∷ [])
    ∷ whole 2 2 3 71 (2 ∷ 3 ∷ 10 ∷ 8 ∷ 14 ∷ 13 ∷ 6 ∷ 2 ∷ 2 ∷ 7 ∷ 10 ∷ 12 ∷ 6 ∷ 1 ∷ 14 ∷ 6 ∷ [])
    ∷ whole 2 2 3 71 (2 ∷ 3 ∷ 10 ∷ 8 ∷ 12 ∷ 13 ∷ 7 ∷ 2 ∷ 5 ∷ 7 ∷ 8 ∷ 12 ∷ 2 ∷ 1 ∷ 1 ∷ 6 ∷ [])
    ∷ whole 2 2 3 71 (3 ∷ 3 ∷ 8 ∷ 8 ∷ 13 ∷ 13 ∷ 3 ∷ 2 ∷ 7 ∷ 7 ∷ 12 ∷ 12 ∷ 0 ∷ 1 ∷ 7 ∷ 6 ∷ [])
    ∷ whole 3 2 3 216 (11 ∷ 3 ∷ 8 ∷ 14 ∷ 13 ∷ 2 ∷ 9 ∷ 7 ∷ 12 ∷ 4 ∷ 1 ∷ 6 ∷ 11 ∷ 11 ∷ 0 ∷ 13 ∷ 5 ∷ 10 ∷ 15 ∷ 15 ∷ 4 ∷ 1 ∷ 9 ∷ 14 ∷ []) ∷ []
    ≡ ((1 ∷ 4 ∷ 17 ∷ 1 ∷ []) ∷ (2 ∷ []) ∷ (0 ∷ 3 ∷ []) ∷ [])
    ∷ ((1 ∷ 9 ∷ 42 ∷ 2 ∷ []) ∷ (1 ∷ 2 ∷ []) ∷ (15 ∷ 12 ∷ 0 ∷ []) ∷ [])
    ∷ ((1 ∷ 10 ∷ 45 ∷ 2 ∷ []) ∷ (1 ∷ 3 ∷ []) ∷ (8 ∷ 0 ∷ 13 ∷ []) ∷ [])
    ∷ ((0 ∷ 8 ∷ 44 ∷ 1 ∷ []) ∷ (3 ∷ []) ∷ (0 ∷ 0 ∷ 0 ∷ []) ∷ [])
    ∷ ((0 ∷ 7 ∷ 124 ∷ 2 ∷ []) ∷ (2 ∷ []) ∷ (0 ∷ 0 ∷ 0 ∷ []) ∷ [])
    ∷ []
unfolding F16 F256 field_of bits bitwise inv inverse_below polynomialProduct times left run over_pairs joined sum refresh_turn refresh product_turn product_over product and_of pair_refresh_turn pair_refresh opening folds fold_draws shifted fresh_shift fold low_bits zero_flag scaled blind_turn blinded blinded_value factors inversion_draws cell part put over_columns signed join_turn join_row join_rows mix check scale_turn scale_row factor_turn scale_all scale clear unknown_at lift_turn lift mix_cost check_cost scale_cost scale_nonzero clear_cost open_cost each cost_in revealed_by sum_over step_opens step_leaves before row_of last with cost_of next_column following found_by start_of moved_on opened acted walk most_steps conclude solved pattern_of counting
answers = refl

pub tables : table 2 1 2 22 (3 ∷ 3 ∷ 11 ∷ 8 ∷ 8 ∷ 13 ∷ []) ∷ table 2 2 3 71 (2 ∷ 3 ∷ 10 ∷ 8 ∷ 12 ∷ 13 ∷ 7 ∷ 2 ∷ 5 ∷ 7 ∷ 8 ∷ 12 ∷ 2 ∷ 1 ∷ 1 ∷ 6 ∷ []) ∷ []
    ≡ (3 ∷ 3 ∷ 3 ∷ 2 ∷ 10 ∷ 9 ∷ [])
    ∷ (0 ∷ 1 ∷ 9 ∷ 11 ∷ 5 ∷ 4 ∷ 7 ∷ 15 ∷ 3 ∷ 3 ∷ 12 ∷ 12 ∷ 1 ∷ 0 ∷ 11 ∷ 6 ∷ []) ∷ []
unfolding F16 F256 field_of bits bitwise inv inverse_below polynomialProduct times left run over_pairs joined sum refresh_turn refresh product_turn product_over product and_of pair_refresh_turn pair_refresh opening folds fold_draws shifted fresh_shift fold low_bits zero_flag scaled blind_turn blinded blinded_value factors inversion_draws cell part put over_columns signed join_turn join_row join_rows mix check scale_turn scale_row factor_turn scale_all scale clear unknown_at lift_turn lift mix_cost check_cost scale_cost scale_nonzero clear_cost open_cost each cost_in revealed_by sum_over step_opens step_leaves before row_of last with cost_of next_column following found_by start_of moved_on opened acted walk most_steps conclude solved pattern_of counting
tables = refl
