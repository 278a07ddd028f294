-- The places so far hold the masks, and h is what is left of a.
use mathlib.Core.Path.{◌≡◌}
use Prim.Native.Nat.{ℕ, ◌/◌, ◌^◌, ◌<◌}
use lib.ListN.{get_or}
use Rattle.choice.specs.Code.Writing.{IsMask}
use Rattle.choice.proofs.share_masks.Given as goal

abbrev pub invariant-loop-mask : goal.invariant-loop-mask
invariant-loop-mask l =
    (l.h ≡ l.a / 2 ^ l.mask-index) × ((t : ℕ) → t < l.mask-index → IsMask l.a t (get_or l.group t 0))
