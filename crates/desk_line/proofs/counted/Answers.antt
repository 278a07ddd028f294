-- `desk_line::counted` meets its contract: three numbers, a space behind the first two and a newline behind the third.
-- Assumes nothing.
use mathlib.Core.List.{append_assoc}
use native.Mathlib.Omega.{arith}
use Rattle.desk_line.specs.Text.{ascii}
use Rattle.desk_line.specs.Line.{counts_line}
use Rattle.desk_line.proofs.Written.{wrote_then, made_front}
use Rattle.desk_line.proofs.counted.Goals as goal

pub returns : goal.returns
unfolding ascii counts_line
returns c =
    let one = c.number-a in
    let two = c.number-b in
    let three = c.number in
    let both = wrote_then one.ensures.wrote two.ensures.wrote (omega (arith, one.ensures.wrote.next)) in
    let all = wrote_then both three.ensures.wrote (omega (arith, both.next)) in
    made_front (simp append_assoc (simp append_assoc at all))
