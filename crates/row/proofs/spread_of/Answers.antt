-- `row::spread_of` meets its contract. The loop's invariant: c is a run of the turns of i's pairs so far.
-- Assumes nothing.
use mathlib.Core.Path.{◌≡◌, ap, ◌∙◌}
use Prim.Native.Nat.{ℕ, ◌+◌, ◌-◌, ◌*◌}
use native.Mathlib.Omega.{arith}
use lib.ListN.{get_or, take, drop}
use lib.Seq.{get_or-take, get_or-drop}
use Rattle.sharing.specs.Run.{before}
use Rattle.sharing.proofs.Loops.{run_none, run-next}
use Rattle.sharing.proofs.Pairs.{pairs_room}
use Rattle.row.specs.Code.Spread.{spread_turn}
use Rattle.row.proofs.spread_of.Goals as goal

pub overflow_add-f : goal.overflow_add-f
overflow_add-f g c = omega (arith, pairs_room g.row.N c.args.i (omega arith))

pub loop-v-init : goal.loop-v-init
loop-v-init g c = run_none _ _

pub overflow_add-r-items : goal.overflow_add-r-items
overflow_add-r-items g c = omega (arith, pairs_room g.row.N c.args.i (omega arith))

pub slice_bounds-r-items-end : goal.slice_bounds-r-items-end
slice_bounds-r-items-end g c = omega (arith, pairs_room g.row.N c.args.i (omega arith))

pub loop-v-preserved : goal.loop-v-preserved
unfolding spread_turn
loop-v-preserved g c =
    let l = c.loop-v in
    let x = c.args in
    let d : (x.i + 1 + l.v) - x.i ≡ l.v + 1 = omega arith in
    let p : (l.v + 1) * x.span + (x.a + x.i) + (l.v + 1) ≡ (l.v + 1) * x.span + (x.a + (x.i + 1 + l.v)) = omega arith in
    let f = x.b + x.at in
    let q : f + l.v ≡ x.b + (before g.row.N x.i + l.v) = omega arith in
    let k : get_or (take ((f + (g.row.N - 1 - x.i)) - f) (drop f x.z.now)) l.v 0 ≡ get_or x.z.now (x.b + (before g.row.N x.i + l.v)) 0 =
    get_or-take _ (drop f x.z.now) l.v 0 (omega arith) ∙ get_or-drop f x.z.now l.v 0 ∙ ap (λ (y : ℕ). get_or x.z.now y 0) q in
    run-next _ _ _ _ _ l.invariant (rw (d, p, k))
