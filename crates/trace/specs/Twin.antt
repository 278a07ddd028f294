-- R-1: the plain call beside the masked one.
-- Assumes nothing.
use Rattle.std.specs.Prelude.{List, ℕ}
use Rattle.algebra.specs.Linear.{Answer}
use Rattle.walk.specs.declared.Ending.{Ending}
use Rattle.walk.specs.Act.{Held}
use Rattle.meaning.specs.Meaning.{answer_of}
use Rattle.verdict.specs.Calls.{Says, refuses, gives, Outcome, after}

-- an answer without its counters, which the plain call has none of
abbrev pub uncounted : Says Ending → Says Answer
uncounted (refuses l) = refuses l
uncounted (gives e) = gives (answer_of e)

-- what the plain call has too of the masked call's outcome: the answer, and the solution
abbrev pub plainly : Outcome Ending Held → Outcome Answer (List ℕ)
plainly o = after (uncounted o.says) o.left.solution
