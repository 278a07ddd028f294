-- `walk::gather` meets its contract. The loop's invariant: the turns so far have stored the sum of each entry passed.
-- Assumes nothing.
use mathlib.Core.Path.{◌≡◌, ap, ◌∙◌}
use Prim.Native.Nat.{ℕ, ◌*◌}
use native.Mathlib.Omega.{arith}
use lib.ListN.{length, set}
use Rattle.field.specs.Field.{field_of}
use Rattle.sharing.specs.Rules.{sum}
use Rattle.sharing.proofs.Loops.{run_none, run-next}
use Rattle.sharing.proofs.Each.{each-tab}
use Rattle.table.specs.Layout.{part}
use Rattle.table.proofs.Parts.{part-lent}
use Rattle.walk.specs.Dealing.{gathered}
use Rattle.walk.proofs.gather.Goals as goal

pub loop-i-init : goal.loop-i-init
loop-i-init c = run_none _ _

pub loop-i-preserved : goal.loop-i-preserved
loop-i-preserved c =
    let l = c.loop-i in
    let a = c.args in
    let e : c.sum.result ≡ sum (field_of a.f) (part a.n (l.i * a.n) a.table.now) = c.sum.ensures ∙ rw (part-lent a.n (l.i * a.n) a.table.now) in
    run-next _ _ _ _ _ l.invariant (ap (λ (x : ℕ). set l.values l.i x) e)

pub returns : goal.returns
unfolding gathered
returns c =
    let e : c.loop-i.i ≡ length c.args.values.now = omega arith in
    rw e at (each-tab _ _ _ _ c.loop-i.invariant (omega arith))
