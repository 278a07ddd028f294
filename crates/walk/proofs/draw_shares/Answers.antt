-- `walk::draw_shares` meets its contract. The loop's invariant: the turns so far have stored a draw at each place passed.
-- Assumes nothing.
use mathlib.Core.Path.{◌≡◌, ap}
use Prim.Native.Nat.{ℕ}
use native.Mathlib.Omega.{arith}
use lib.ListN.{length, set}
use Rattle.sharing.proofs.Loops.{run_none, run-next}
use Rattle.sharing.proofs.Each.{each-tab}
use Rattle.walk.proofs.draw_shares.Goals as goal

pub loop-s-init : goal.loop-s-init
loop-s-init c = run_none _ _

pub loop-s-preserved : goal.loop-s-preserved
loop-s-preserved c = let l = c.loop-s in run-next _ _ _ _ _ l.invariant (ap (λ (x : ℕ). set l.e l.s x) c.draw.ensures)

pub returns : goal.returns
returns c =
    let e : c.loop-s.s ≡ length c.args.e.now = omega arith in
    rw e at (each-tab _ _ _ _ c.loop-s.invariant (omega arith))
