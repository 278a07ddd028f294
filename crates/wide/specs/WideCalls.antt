-- 02, R-8: the wide calls: what each answers, and every lent byte afterwards, for every input.
-- Assumes nothing.
use Rattle.std.specs.Prelude.{List, ℕ, Result, Ok, Err, length}
use Rattle.course.specs.declared.Draws.{Draws}
use Rattle.course.specs.StepList.{Revealed, None, Flag, Pivot, Unknown, revealed_by}
use Rattle.walk.specs.Act.{Held}
use Rattle.pattern.specs.declared.WideOrder.{WideOrder}
use Rattle.pattern.specs.declared.WidePlace.{WidePlace}
use Rattle.pattern.specs.declared.WidePlace.TheVariants as P
use Rattle.pattern.specs.declared.WideProgress.{WideProgress}
use Rattle.pattern.specs.Pivots.{listed}
use Rattle.pattern.specs.PatternList.{wanted}
use Rattle.pattern.specs.Next.{start_of, moved_on}
use Rattle.wide_walk.specs.declared.WideEnding.{WideEnding}
use Rattle.wide_walk.specs.WideWalk.{opened, acted, Solution, solved, Counters}
use Rattle.wide_meaning.specs.WideMeaning.{Means}
use Rattle.wide.specs.declared.WideStride.{WideStride}
use Rattle.wide.specs.declared.WideStride.TheVariants as T
use Rattle.wide.specs.declared.WideStepped.{WideStepped}
use Rattle.verdict.specs.declared.Refusal.{Refusal}
use Rattle.verdict.specs.Refusals.{paper}
use Rattle.verdict.specs.Calls.{Says, refuses, gives, Outcome, after, call, Nothing}
use Rattle.wide.specs.WideRefusals.{sizes, solve_order, wanted_order, step_order, cost_at}

abbrev pub order : ℕ → ℕ → ℕ → ℕ → WideOrder
order field shares rows columns = record { field = field; shares = shares; rows = rows; columns = columns }

-- ---- Start: a fresh record, or refusal 1, 2, 3, 21

unfoldable pub start_call : WideOrder → Outcome WideProgress Nothing
start_call o = call (sizes o) tt (after (gives (start_of o)) tt)

-- ---- the lengths that a whole solve wants, and the draws that a record's step wants: mask draws and nonzero draws

unfoldable pub counts_call : WideOrder → Outcome Draws Nothing
counts_call o = call (sizes o) tt (after (gives (wanted o)) tt)

unfoldable pub wanted_call : WideProgress → Outcome Draws Nothing
wanted_call p = call (wanted_order p) tt (after (gives (cost_at p.order p.place)) tt)

-- ---- Solve: solved or short, with the steps, mask draws and nonzero draws taken

abbrev pub solve_does : Solution → Outcome WideEnding Held
solve_does s = after (gives s.answer) s.left

unfoldable pub solve_call : WideOrder → Held → List ℕ → List ℕ → Outcome WideEnding Held
solve_call o h mask nonzero =
    call (solve_order o h.table (length h.solution) (length mask) nonzero) h (solve_does (solved o mask nonzero h))

-- what an answer that is no refusal says of the table as it was lent, x being the solution that the call leaves: it is true of the table with the
-- pivots ps, which are those of the table and no others, and its counters are the sums over their pattern
pub record Tells (o : WideOrder) (t : List ℕ) (e : WideEnding) (x : List ℕ) : Type 0 where
  pub pivots : List ℕ
  pub meant : Means o t e pivots x
  pub counted : Counters o pivots e

abbrev pub TellsIn : WideOrder → List ℕ → Says WideEnding → List ℕ → Type 0
TellsIn o t (refuses l) x = Unit {0}
TellsIn o t (gives e) x = Tells o t e x

-- ---- Step: moved, opened (with j and x_j), short or done (with x_j: the first pivot's). "the last answers short and leaves that as the place"

abbrev pub step_says : Result WideStepped Refusal → Says WideStride
step_says (Ok s) = gives s.told
step_says (Err r) = refuses (paper r)

-- the record after a step: on a refusal as it was
abbrev pub left_by : WideProgress → Result WideStepped Refusal → WideProgress
left_by p (Ok s) = s.next
left_by p (Err r) = p

-- what a step tells that opened x and came to the next place; a Check that passes its column over has moved, or ended short
abbrev pub tells_at : WidePlace → ℕ → ℕ → WideStride
tells_at (P.At s) j x = T.Opened j x
tells_at P.Short j x = T.Opened j x
tells_at P.Done j x = T.Done j x

abbrev pub moves_at : WidePlace → WideStride
moves_at (P.At s) = T.Moved
moves_at P.Short = T.Short
moves_at P.Done = T.Moved

unfoldable pub tells : Revealed → ℕ → WidePlace → WideStride
tells None x next = moves_at next
tells (Flag j) x next = moves_at next
tells (Pivot j) x next = moves_at next
tells (Unknown j) x next = tells_at next j x

-- the record, beside the table and the solution
pub record Lent : Type 0 where
  pub progress : WideProgress
  pub held : Held

abbrev pub lent : WideProgress → Held → Lent
lent p h = record { progress = p; held = h }

-- the step of the record's place, on all of the lent parts; a call that comes here has a step at its place
unfoldable pub step_does : WideProgress → WidePlace → Held → List ℕ → List ℕ → Outcome WideStride Lent
step_does p (P.At s) h mask nonzero =
    let ps = listed p.pivots in
    let x = opened p.order ps s mask h in
    let next = moved_on p s x in
    after (gives (tells (revealed_by s) x next.place)) (lent next (acted p.order ps s mask nonzero h))
step_does p P.Short h mask nonzero = after (gives T.Moved) (lent p h)
step_does p P.Done h mask nonzero = after (gives T.Moved) (lent p h)

unfoldable pub step_call : WideProgress → Held → List ℕ → List ℕ → Outcome WideStride Lent
step_call p h mask nonzero =
    call (step_order p h.table h.solution (length mask) nonzero) (lent p h)
    (step_does p p.place h mask nonzero)
