-- 01, "desk reads standard input": the line that desk prints, for every input.
-- Assumes nothing.
use Rattle.std.specs.Prelude.{List, ◌++◌, ◌≡◌, ℕ, ◌+◌, ◌*◌, ◌≤◌, ◌<◌, eqb, length, get_or, take, drop, Option}
use Rattle.std.specs.Io.KnownBytes.{Consumes, IsAtEnd}
use Rattle.field.specs.Field.{pick}
use Rattle.course.specs.declared.Counts.{Counts}
use Rattle.verdict.specs.Calls.{Says, refuses, gives}
use Rattle.solver.specs.Calls.{order, counts_call}
use Rattle.desk_line.specs.Text.{ascii, decimal}

-- "refused ", the number and a newline
unfoldable pub refused_line : ℕ → List ℕ
refused_line k = ascii "refused " ++ decimal k ++ ascii "\n"

-- steps, mask draws and nonzero draws, as decimals with one space between, and a newline
unfoldable pub counts_line : Counts → List ℕ
counts_line c = decimal c.steps ++ ascii " " ++ decimal c.mask ++ ascii " " ++ decimal c.nonzero ++ ascii "\n"

abbrev pub line_of : Says Counts → List ℕ
line_of (refuses l) = refused_line l.number
line_of (gives c) = counts_line c

-- four bytes: field (two bytes, high first), shares, size, and the line says what `counts` answers to them; any other input: 13
unfoldable pub desk_line : List ℕ → List ℕ
desk_line input =
    let byte : ℕ → ℕ = λ i. get_or input i 0 in
    pick (eqb (length input) 4)
    (line_of (counts_call (order (byte 0 * 256 + byte 1) (byte 2) (byte 3))).says)
    (refused_line 13)

-- a text at a place of a buffer, and the rest of the buffer as it was
unfoldable pub written : List ℕ → ℕ → List ℕ → List ℕ
written buffer at text = take at buffer ++ text ++ drop (at + length text) buffer

-- what a writer from a place on has done: the text stands there, and the answer is the place behind it
pub record Wrote (buffer : List ℕ) (at : ℕ) (text : List ℕ) (left : List ℕ) (r : ℕ) : Type 0 where
  pub bytes : left ≡ written buffer at text
  pub next : r ≡ at + length text

-- what a maker of a whole line has done: the line stands at the front, the rest of the buffer is as it was, and the answer is the line's length
pub record Made (buffer : List ℕ) (line : List ℕ) (left : List ℕ) (r : ℕ) : Type 0 where
  pub bytes : left ≡ line ++ drop (length line) buffer
  pub count : r ≡ length line

-- what a reader of an input's front has done that answered n, with the buffer as it left it: the first n bytes of the buffer were taken from what the
-- reader had left, and where they don't fill the buffer, it has none left
pub record ReadFront (had left : Option (List ℕ)) (buffer : List ℕ) (n : ℕ) : Type 0 where
  pub within : n ≤ length buffer
  pub taken : Consumes had left (take n buffer)
  pub ended : n < length buffer → IsAtEnd left
