-- The places so far hold the word and its doubles, and v is the next one.
use Prim.Native.Nat.{ℕ, ◌<◌}
use lib.ListN.{get_or}
use Rattle.choice.specs.Code.Writing.{IsMultiple}
use Rattle.choice.proofs.multiples.Given as goal

abbrev pub invariant-loop-place : goal.invariant-loop-place
invariant-loop-place g l =
    IsMultiple g.row.BITS l.x l.place-index l.v × ((t : ℕ) → t < l.place-index → IsMultiple g.row.BITS l.x t (get_or l.group t 0))
