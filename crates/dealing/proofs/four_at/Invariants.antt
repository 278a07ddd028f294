-- The pairs so far are in the low lanes.
use mathlib.Core.Path.{◌≡◌}
use Prim.Native.Nat.{ℕ, ◌+◌, ◌-◌, ◌*◌, ◌/◌, ◌%◌, ◌^◌, ◌<◌}
use lib.ListN.{get_or}
use Rattle.word.specs.Lanes.{lane}
use Rattle.dealing.proofs.four_at.Given as goal

abbrev pub invariant-loop-q : goal.invariant-loop-q
invariant-loop-q l =
    (l.v < 2 ^ (16 * (4 - l.q))) × ((i : ℕ) → 2 * l.q + i < 8 → lane l.v i ≡ get_or l.d (l.o + (2 * l.q + i) / 2 * l.m + (2 * l.q + i) % 2) 0)
