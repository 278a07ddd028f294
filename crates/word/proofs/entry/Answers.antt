use mathlib.Core.Path.{◌≡◌, refl, ap, ◌∙◌}
use Prim.Native.Nat.{ℕ, ◌+◌, ◌*◌, ◌/◌, ◌%◌, ◌^◌}
use native.Mathlib.Omega.{arith}
use lib.ListN.{get_or, length-set}
use Rattle.row.proofs.Filling.{filled_next}
use Rattle.word.specs.Lanes.{lane}
use Rattle.word.specs.Rows.{byte_of}
use Rattle.word.proofs.entry.Goals as goal

pub loop-s-preserved : goal.loop-s-preserved
unfolding byte_of lane
loop-s-preserved c =
    let l = c.loop-s in
    let x = c.args in
    let e : c.byte_of.result ≡ byte_of x.n x.row.now x.e l.s =
    c.byte_of.ensures ∙ ap (λ (k : ℕ). get_or x.row.now (x.e / 8 * x.n + l.s) 0 / 2 ^ k % 256) l.invariant.1 in
    (refl, l.invariant.1, simp length-set l.invariant.2, filled_next _ l.s _ l.out (omega arith) l.invariant.3 e)
