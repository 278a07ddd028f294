-- The columns so far are stored.
use Rattle.word.proofs.Putting.{PutFrom}
use Rattle.word.proofs.give_row.Given as goal

abbrev pub invariant-loop-e : goal.invariant-loop-e
invariant-loop-e l = PutFrom l.n l.columns l.e l.bytes l.initial.row l.row
