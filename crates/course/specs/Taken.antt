-- 02, R-5: "the mask and nonzero draws taken so far". At each place they are 01's sums over the steps of the list that come before it.
-- Assumes nothing.
use Rattle.std.specs.Prelude.{List, ◌∷◌, ◌++◌, ℕ, ◌+◌, ◌-◌, ◌*◌, take}
use Rattle.course.specs.declared.Step.{Step}
use Rattle.course.specs.declared.Step.TheVariants.{Mix, Check, Scale, Clear, Open, Lift}
use Rattle.course.specs.declared.Place.{Place}
use Rattle.course.specs.declared.Place.TheVariants.{At, Stopped, Done}
use Rattle.course.specs.declared.Draws.{Draws}
use Rattle.course.specs.declared.Order.{Order}
use Rattle.course.specs.StepList.{each, columns, openings, step_list, up_to, draws, mask_cost, nonzero_cost, sum_over}

-- the steps before one of the list: the columns before its own, and what of its own column comes first; before Open(j) there are all columns,
-- and an Open and a Lift for each of m down to j+1
unfoldable pub before_step : ℕ → Step → List Step
before_step m (Mix j k) = columns m 1 (j - 1) ++ each (Mix j) (j + 1) (k - j - 1)
before_step m (Check j) = columns m 1 (j - 1) ++ each (Mix j) (j + 1) (m - j)
before_step m (Scale j) = up_to m j
before_step m (Clear j k) = up_to m j ++ (Scale j ∷ each (Clear j) (j + 1) (k - j - 1))
before_step m (Open j) = columns m 1 m ++ take (2 * (m - j)) (openings m)
before_step m (Lift j) = columns m 1 m ++ take (2 * (m - j) + 1) (openings m)

-- those before a place: stopped at j comes after Check(j), and done after the whole list
unfoldable pub steps_before : ℕ → Place → List Step
steps_before m (At s) = before_step m s
steps_before m (Stopped j) = up_to m j
steps_before m Done = step_list m

-- the draws taken so far
unfoldable pub taken_at : Order → Place → Draws
taken_at o place =
    let l = steps_before o.size place in
    draws (sum_over (mask_cost o) l) (sum_over (nonzero_cost o) l)
