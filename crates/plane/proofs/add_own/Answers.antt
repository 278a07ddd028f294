use mathlib.Core.Path.{◌≡◌, ap}
use Prim.Native.Nat.{ℕ, ◌+◌, ◌*◌}
use native.Mathlib.Omega.{arith}
use lib.ListN.{get_or}
use Rattle.sharing.specs.Code.Bytes.{xor_at}
use Rattle.sharing.proofs.Loops.{run_none, run-next}
use Rattle.plane.specs.Code.Sums.{own_turn}
use Rattle.plane.proofs.add_own.Goals as goal

pub loop-i-init : goal.loop-i-init
loop-i-init g c = run_none _ _

pub loop-i-preserved : goal.loop-i-preserved
unfolding own_turn
loop-i-preserved g c =
    let l = c.loop-i in
    let x = c.args in
    let n = g.row.N in
    let e : x.q + l.i * (n + 1) ≡ x.q + (l.i * n + l.i) = omega arith in
    run-next _ _ _ _ _ l.invariant (ap (λ (k : ℕ). xor_at (x.g + l.i) (get_or x.p.now k 0) l.row) e)
