-- `desk_line::refused` meets its contract: the word, and then the number and the newline.
-- Assumes nothing.
use mathlib.Core.List.{append_assoc}
use native.Mathlib.Omega.{arith}
use Rattle.desk_line.specs.Text.{ascii}
use Rattle.desk_line.specs.Line.{refused_line}
use Rattle.desk_line.proofs.Written.{wrote_then, made_front}
use Rattle.desk_line.proofs.refused.Goals as goal

pub returns : goal.returns
unfolding ascii refused_line
returns c =
    let n = c.number in
    let p = c.append-at in
    made_front (rw append_assoc (wrote_then p.ensures n.ensures.wrote (omega arith)))
