-- 01: "Its next place is worked out from the record by value and handed back: the next in the list, done after the last, or stopped at j
-- where Check opened 1." 02, R-5: "The progress record gains the mask and nonzero draws taken so far."
-- Assumes nothing.
use Rattle.std.specs.Prelude.{Bool, ◌&&◌, List, [], ◌∷◌, ◌≡◌, ℕ, ◌+◌, ◌-◌, ltb, eqb}
use Rattle.field.specs.Field.{pick}
use Rattle.course.specs.declared.Step.{Step}
use Rattle.course.specs.declared.Step.TheVariants.{Mix, Check, Scale, Clear, Open, Lift}
use Rattle.course.specs.declared.Place.{Place}
use Rattle.course.specs.declared.Place.TheVariants.{At, Stopped, Done}
use Rattle.course.specs.declared.Order.{Order}
use Rattle.course.specs.declared.Progress.{Progress}
use Rattle.course.specs.StepList.{mask_cost, nonzero_cost}
use Rattle.course.specs.Taken.{taken_at}

-- the first place of column j: there is no Mix in the last column
unfoldable pub first_of : ℕ → ℕ → Place
first_of m j = pick (ltb j m) (At (Mix j (j + 1))) (At (Check j))

-- the place after a step of the list that opened x; only Check looks at x
unfoldable pub following : ℕ → Step → ℕ → Place
following m (Mix j k) x = pick (ltb k m) (At (Mix j (k + 1))) (At (Check j))
following m (Check j) x = pick (eqb x 1) (Stopped j) (At (Scale j))
following m (Scale j) x = pick (ltb j m) (At (Clear j (j + 1))) (At (Open m))
following m (Clear j k) x = pick (ltb k m) (At (Clear j (k + 1))) (first_of m (j + 1))
following m (Open j) x = pick (ltb 1 j) (At (Lift j)) Done
following m (Lift j) x = At (Open (j - 1))

-- a record of an order at a place, with so many mask draws and nonzero draws taken
abbrev pub record_at_of : Order → Place → ℕ → ℕ → Progress
record_at_of o place mask nonzero =
    record { field = o.field; shares = o.shares; size = o.size; place = place; mask = mask; nonzero = nonzero }

abbrev pub order_of : Progress → Order
order_of p = record { field = p.field; shares = p.shares; size = p.size }

-- moved on from step s, which opened x: the step's draws are added
abbrev pub moved_on : Progress → Step → ℕ → Progress
moved_on p s x =
    let o = order_of p in
    record_at_of o (following o.size s x) (p.mask + mask_cost o s) (p.nonzero + nonzero_cost o s)

-- a fresh record: nothing is taken yet
unfoldable pub start_of : Order → Progress
start_of o = record_at_of o (first_of o.size 1) 0 0

-- whether a record's counters match its place
unfoldable pub counted : Progress → Bool
counted p =
    let d = taken_at (order_of p) p.place in
    eqb p.mask d.mask && eqb p.nonzero d.nonzero

-- from place p the steps of the list are met one after the other, where no Check opens 1, and then place q
abbrev pub Chain : ℕ → Place → List Step → Place → Type 0
Chain m p [] q = p ≡ q
Chain m p (s ∷ ss) q = (p ≡ At s) × Chain m (following m s 0) ss q
