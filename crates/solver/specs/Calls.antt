-- The public calls: what each answers, in 01's words, and every lent byte afterwards, for every input.
-- Assumes nothing.
use Rattle.std.specs.Prelude.{List, ℕ, Result, Ok, Err, eqb, length}
use Rattle.field.specs.Field.{pick}
use Rattle.course.specs.declared.Place.{Place}
use Rattle.course.specs.declared.Place.TheVariants as P
use Rattle.course.specs.declared.Order.{Order}
use Rattle.course.specs.declared.Progress.{Progress}
use Rattle.course.specs.declared.Counts.{Counts}
use Rattle.course.specs.declared.Draws.{Draws}
use Rattle.course.specs.StepList.{Revealed, None, Flag, Pivot, Unknown, revealed_by, step_list, sums}
use Rattle.course.specs.Next.{order_of, moved_on, start_of}
use Rattle.walk.specs.declared.Ending.{Ending}
use Rattle.walk.specs.Act.{Held, opened, acted}
use Rattle.walk.specs.Walk.{Solution, solved, Counters}
use Rattle.walk.specs.Dealing.{dealt, gathered}
use Rattle.meaning.specs.Meaning.{Means}
use Rattle.solver.specs.declared.Stride.{Stride}
use Rattle.solver.specs.declared.Stride.TheVariants.{Moved, Opened, Stopped, Done}
use Rattle.solver.specs.declared.Stepped.{Stepped}
use Rattle.verdict.specs.declared.Refusal.{Refusal}
use Rattle.verdict.specs.Refusals.{paper}
use Rattle.verdict.specs.Calls.{Says, refuses, gives, Outcome, after, call, Nothing}
use Rattle.solver.specs.Refusals.{sizes, deal_order, gather_order, solve_order, step_order, wanted_order, entries, cost_at}

abbrev pub order : ℕ → ℕ → ℕ → Order
order field shares size = record { field = field; shares = shares; size = size }

-- ---- Start: a fresh record or refusal 1, 2, 3

unfoldable pub start_call : Order → Outcome Progress Nothing
start_call o = call (sizes o) tt (after (gives (start_of o)) tt)

-- ---- the counts of an order: steps, mask draws and nonzero draws of a full solve

unfoldable pub counts_call : Order → Outcome Counts Nothing
counts_call o = call (sizes o) tt (after (gives (sums o (step_list o.size))) tt)

-- ---- Deal and Gather: both answer that what was lent is filled

unfoldable pub deal_call : Order → List ℕ → List ℕ → List ℕ → Outcome Nothing (List ℕ)
deal_call o values mask table =
    call (deal_order o values (length table) (length mask)) table
    (after (gives tt) (dealt o.field o.shares (entries o.size) values mask table))

unfoldable pub gather_call : Order → List ℕ → List ℕ → Outcome Nothing (List ℕ)
gather_call o table values =
    call (gather_order o table (length values)) values
    (after (gives tt) (gathered o.field o.shares (entries o.size) table))

-- ---- Solve: solved or stopped(j), with the steps, mask draws and nonzero draws taken

abbrev pub solve_does : Solution → Outcome Ending Held
solve_does s = after (gives s.answer) s.left

unfoldable pub solve_call : Order → Held → List ℕ → List ℕ → Outcome Ending Held
solve_call o h mask nonzero =
    call (solve_order o h.table (length h.solution) (length mask) nonzero) h (solve_does (solved o mask nonzero h))

-- demand 2: what an answer that is no refusal says of the table as it was lent, x being the solution that the call leaves
abbrev pub Tells : Order → List ℕ → Says Ending → List ℕ → Type 0
Tells o t (refuses l) x = Unit {0}
Tells o t (gives e) x = Means o t e x

-- demand 3: the counters of an answer that is no refusal are 01's sums over the step list, whatever was lent
abbrev pub Taken : Order → Says Ending → Type 0
Taken o (refuses l) = Unit {0}
Taken o (gives e) = Counters o e

-- ---- Step: moved, opened (with j and x_j), stopped (with j) or done (the last Open, j = 1, answers done with x_1)

abbrev pub step_says : Result Stepped Refusal → Says Stride
step_says (Ok s) = gives s.told
step_says (Err r) = refuses (paper r)

-- the record that it leaves; on a refusal the record as it was
abbrev pub left_by : Progress → Result Stepped Refusal → Progress
left_by p (Ok s) = s.next
left_by p (Err r) = p

-- what a step tells that opened x
unfoldable pub tells : Revealed → ℕ → Stride
tells None x = Moved
tells (Flag j) x = pick (eqb x 1) (Stopped j) Moved
tells (Pivot j) x = Moved
tells (Unknown j) x = pick (eqb j 1) (Done x) (Opened j x)

-- the record, beside the table and the solution
pub record Lent : Type 0 where
  pub progress : Progress
  pub held : Held

abbrev pub lent : Progress → Held → Lent
lent p h = record { progress = p; held = h }

-- the step of the record's place, on all of the lent parts; a call that comes here has a place of the list
unfoldable pub step_does : Progress → Place → Held → List ℕ → List ℕ → Outcome Stride Lent
step_does p (P.At s) h mask nonzero =
    let x = opened (order_of p) s mask h in
    after (gives (tells (revealed_by s) x)) (lent (moved_on p s x) (acted (order_of p) s mask nonzero h))
step_does p (P.Stopped j) h mask nonzero = after (gives Moved) (lent p h)
step_does p P.Done h mask nonzero = after (gives Moved) (lent p h)

unfoldable pub step_call : Progress → Held → List ℕ → List ℕ → Outcome Stride Lent
step_call p h mask nonzero =
    call (step_order p h.table h.solution (length mask) nonzero) (lent p h)
    (step_does p p.place h mask nonzero)

-- ---- Wanted: the mask draws and the nonzero draws of the record's place, which Step asks for (7, 14, 8, 15); or refusal 1, 2, 3, 10, 19, 11

unfoldable pub wanted_call : Progress → Outcome Draws Nothing
wanted_call p =
    call (wanted_order p) tt
    (after (gives (cost_at (order_of p) p.place)) tt)
