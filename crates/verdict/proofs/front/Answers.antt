-- `front` meets its contract: a list that is not longer than k is its own front.
-- Assumes nothing.
use mathlib.Core.Path.{sym}
use Prim.Native.Nat.{◌≤◌}
use native.Mathlib.Omega.{arith}
use lib.Seq.{take_all, length-take-le}
use lib.ListN.{length}
use Rattle.verdict.proofs.front.Goals as goal

pub slice_bounds-result-end : goal.slice_bounds-result-end
slice_bounds-result-end c = sym (length-take-le _ _ c.if-k-s.true)

pub returns-else-k-s : goal.returns-else-k-s
returns-else-k-s c = let h : length c.args.s.now ≤ c.args.k = omega arith in sym (take_all _ _ h)
