-- `clear_below` meets its contract. The loop's invariant: the table is a run of the rows so far.
-- Assumes nothing.
use mathlib.Core.Path.{◌≡◌}
use Prim.Native.Nat.{◌+◌, ◌-◌}
use native.Mathlib.Omega.{arith}
use Rattle.sharing.proofs.Loops.{run_none, run-next, run_done}
use Rattle.plain.specs.Elimination.{clear_below}
use Rattle.plain.proofs.Square.clear_below.Goals as goal

pub loop-k-init : goal.loop-k-init
loop-k-init c = let j = c.args.j in
    let e : j + 1 - (j + 1) ≡ 0 = omega arith in
    (omega arith, rw e (run_none _ _))

pub loop-k-preserved : goal.loop-k-preserved
loop-k-preserved c =
    let j = c.args.j in
    let k = c.loop-k.k in
    let here : j + 1 + (k - (j + 1)) ≡ k = omega arith in
    let next : k + 1 - (j + 1) ≡ k - (j + 1) + 1 = omega arith in
    (omega arith, rw next (run-next _ (k - (j + 1)) _ _ _ c.loop-k.invariant.1 (rw here c.clear.ensures)))

pub returns : goal.returns
unfolding clear_below
returns c = run_done _ _ _ _ _ c.loop-k.invariant.1 (omega arith)

-- after the last row
pub returns-2 : goal.returns-2
unfolding clear_below
returns-2 c =
    let j = c.args.j in
    let k = c.loop-k.k in
    let here : j + 1 + (k - (j + 1)) ≡ k = omega arith in
    run_done _ _ _ _ _ (run-next _ (k - (j + 1)) _ _ _ c.loop-k.invariant.1 (rw here c.clear.ensures)) (omega arith)
