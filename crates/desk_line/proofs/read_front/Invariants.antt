-- `desk_line::read_front` ends: each turn but the last fills a byte at least. What it filled is what it took from the reader.
-- Assumes nothing.
use Rattle.std.proofs.Common.{ℕ, List, Option, ◌≡◌, ◌-◌, ◌≤◌, length, take}
use Rattle.std.specs.Io.KnownBytes.{Consumes}
use Rattle.desk_line.proofs.read_front.Given as goal

-- the front of the buffer that was taken from the reader, up to n
pub record Filled (had left : Option (List ℕ)) (n : ℕ) (first buffer : List ℕ) : Type 0 where
  pub within : n ≤ length buffer
  pub long : length buffer ≡ length first
  pub taken : Consumes had left (take n buffer)

abbrev pub invariant-loop-n : goal.invariant-loop-n
invariant-loop-n g l = Filled (g.R.Read.remaining l.initial.from) (g.R.Read.remaining l.from) l.n l.initial.input l.input

abbrev pub decreases-loop-n : goal.decreases-loop-n
decreases-loop-n g l = length l.input - l.n
