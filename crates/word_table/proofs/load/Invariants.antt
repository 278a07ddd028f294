-- The rows so far are those of the bytes.
use Rattle.word_table.proofs.Loading.{Loaded}
use Rattle.word_table.proofs.load.Given as goal

abbrev pub invariant-loop-r : goal.invariant-loop-r
invariant-loop-r l = Loaded l.n l.w l.fn.shape.rows l.table l.r l.words
