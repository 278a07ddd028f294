-- The plain call: what it answers, and every lent byte afterwards, for every input; and what its answer means.
-- Assumes nothing.
use Rattle.std.specs.Prelude.{List, ℕ, ◌+◌, ◌*◌, length, Result, Ok, Err}
use Rattle.field.specs.Field.{field_of}
use Rattle.algebra.specs.Linear.{Answer, solved, stopped, Means}
use Rattle.verdict.specs.declared.Refusal.{Refusal}
use Rattle.verdict.specs.declared.Rows.TheVariants.{Values}
use Rattle.verdict.specs.Told.{Told, ◌or◌}
use Rattle.verdict.specs.Refusals.{paper, no1, no3, buffers}
use Rattle.verdict.specs.Calls.{Says, refuses, gives, Outcome, after, call}
use Rattle.plain.specs.declared.Ending.{Ending}
use Rattle.plain.specs.declared.Ending.TheVariants as E
use Rattle.plain.specs.Elimination.{at, solves}

abbrev pub answer : Ending → Answer
answer E.Solved = solved
answer (E.Stopped j) = stopped j

abbrev pub plain_says : Result Ending Refusal → Says Answer
plain_says (Ok e) = gives (answer e)
plain_says (Err r) = refuses (paper r)

-- "Refusals: 1, 3, 4, 5 and 6, in 01's order, with one byte an entry": the values are m(m+1) bytes, and the solution m. R-2: "Deal's values
-- and R-1's table have no shares: share 0"
unfoldable pub plain_order : ℕ → ℕ → List ℕ → ℕ → Told
plain_order field size values length' =
    no1 field or no3 size or buffers field (Values (size + 1)) (size * (size + 1)) values size length'

unfoldable pub plain_does : ℕ → ℕ → List ℕ → List ℕ → Outcome Answer (List ℕ)
plain_does field size values x = let s = solves field size values x in after (gives s.answer) s.solution

-- "The values are only read": the solution is all that could change
unfoldable pub plain_call : ℕ → ℕ → List ℕ → List ℕ → Outcome Answer (List ℕ)
plain_call field size values x = call (plain_order field size values (length x)) x (plain_does field size values x)

-- demand 2, of values: what an answer that is no refusal says of them, x being the solution that the call leaves
abbrev pub Tells : ℕ → ℕ → List ℕ → Says Answer → List ℕ → Type 0
Tells field size values (refuses l) x = Unit {0}
Tells field size values (gives a) x = Means (field_of field) size (at (size + 1) values) a x
