-- What the two tables of this crate share: a row, what it is for a table to hold, and the definitions that rows are worked out by.
-- Assumes nothing.
use Rattle.std.specs.Prelude.{List, [], ◌∷◌, map, ◌≡◌, ℕ}
use Rattle.field.specs.Poly.{times, left, product as polynomialProduct}
use Rattle.field.specs.Field.{F16, F256, field_of, bits, bitwise, inv, inverse_below}
use Rattle.sharing.specs.Run.{run, over_pairs}
use Rattle.sharing.specs.Lists.{joined}
use Rattle.sharing.specs.Rules.{sum, refresh_turn, refresh, product_turn, product_over, product, pair_refresh_turn, pair_refresh, opening, scaled, blind_turn, blinded, blinded_value, factors, inversion_draws}
use Rattle.flag.specs.Flag.{and_of, folds, fold_draws, shifted, fresh_shift, fold, low_bits, zero_flag}
use Rattle.table.specs.Layout.{cell, part, put}
use Rattle.table.specs.Steps.{over_columns, signed, join_turn, join_row, join_rows, mix, check, scale_turn, scale_row, factor_turn, scale_all, scale, clear, unknown_at, lift_turn, lift}
use Rattle.table.specs.Costs.{mix_cost, check_cost, scale_cost, scale_nonzero, clear_cost, open_cost}
use Rattle.course.specs.declared.Order.{Order}
use Rattle.course.specs.declared.Counts.{Counts}
use Rattle.course.specs.StepList.{each, column, columns, openings, step_list, cost_of, cost_in, revealed_by, sum_over, sums}
use Rattle.course.specs.Next.{first_of, following}
use Rattle.walk.specs.Act.{step_opens, step_leaves, opened, acted}
use Rattle.walk.specs.Walk.{walk, conclude, solved}
use Rattle.walk.specs.Dealing.{dealt_entry, deal_turn, dealt, gathered}

-- what the definitions give, and what they are to give
pub record Row : Type 0 where
  pub given : List ℕ
  pub wanted : List ℕ

abbrev pub row : List ℕ → List ℕ → Row
row given wanted = record { given = given; wanted = wanted }

-- one statement about all rows of a table
abbrev pub Holds : List Row → Type 0
Holds rows = map (λ (r : Row). r.given) rows ≡ map (λ (r : Row). r.wanted) rows

abbrev pub order : ℕ → ℕ → ℕ → Order
order f n m = record { field = f; shares = n; size = m }

abbrev pub counted : Counts → List ℕ
counted c = c.steps ∷ c.mask ∷ c.nonzero ∷ []

-- says nothing itself: to unfold this name is to unfold all that its line names
unfoldable pub definitions : Unit {0}
unfolding F16 F256 field_of bits bitwise inv inverse_below polynomialProduct times left run over_pairs joined sum refresh_turn refresh product_turn product_over product and_of pair_refresh_turn pair_refresh opening folds fold_draws shifted fresh_shift fold low_bits zero_flag scaled blind_turn blinded blinded_value factors inversion_draws cell part put over_columns signed join_turn join_row join_rows mix check scale_turn scale_row factor_turn scale_all scale clear unknown_at lift_turn lift mix_cost check_cost scale_cost scale_nonzero clear_cost open_cost each column columns openings step_list cost_of cost_in revealed_by sum_over sums first_of following step_opens step_leaves opened acted walk conclude solved dealt_entry deal_turn dealt gathered
definitions = tt
