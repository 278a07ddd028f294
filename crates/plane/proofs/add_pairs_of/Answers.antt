use mathlib.Core.Path.{◌≡◌, ap, ap₂, ◌∙◌}
use Prim.Native.Nat.{ℕ, ◌+◌, ◌*◌}
use native.Mathlib.Omega.{arith}
use lib.Bits.{bit_xor}
use lib.ListN.{get_or}
use Rattle.sharing.proofs.Loops.{run_none, run-next}
use Rattle.sharing.specs.Code.Bytes.{xor_at}
use Rattle.plane.specs.Code.Sums.{crossed_at, pair_turn}
use Rattle.plane.proofs.add_pairs_of.Goals as goal

pub loop-v-init : goal.loop-v-init
loop-v-init g c = run_none _ _

pub loop-v-preserved : goal.loop-v-preserved
unfolding pair_turn crossed_at
loop-v-preserved g c =
    let l = c.loop-v in
    let x = c.args in
    let n = g.row.N in
    let j : ℕ = x.i + 1 + l.v in
    let d : ℕ = get_or x.z.now (x.k + l.v) 0 in
    let e : x.q + j * n + x.i ≡ x.q + (j * n + x.i) = omega arith in
    let f : x.q + x.i * n + j ≡ x.q + (x.i * n + j) = omega arith in
    run-next _ _ _ _ _ l.invariant
    (ap (λ (y : ℕ). xor_at (x.g + j) y (xor_at (x.g + x.i) d l.row)) (c.crossed-y.ensures ∙ ap₂ (λ (a b : ℕ). bit_xor (bit_xor d (get_or x.p.now a 0)) (get_or x.p.now b 0)) e f))
