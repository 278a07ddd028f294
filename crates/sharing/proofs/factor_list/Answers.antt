-- `sharing::factor_list` meets its contract: a turn of the loop stores the tape's own draw.
-- Assumes nothing.
use Rattle.std.proofs.Common.{◌≡◌, ℕ, ◌-◌, List, refl, ap, ◌∙◌, arith}
use Rattle.std.proofs.lemmas.List.{get_or-take, length-take-le}
use lib.ListN.{set, length-set}
use Rattle.field.specs.Field.{field_of, draw}
use Rattle.sharing.specs.Rules.{four_of}
use Rattle.sharing.proofs.Loops.{run_none, run-next, run_done}
use Rattle.sharing.proofs.Each.{each_last}
use Rattle.sharing.proofs.factor_list.Goals as goal

pub loop-k-init : goal.loop-k-init
loop-k-init c = (refl, run_none _ _)

pub loop-k-preserved : goal.loop-k-preserved
loop-k-preserved c =
    let l = c.loop-k in
    let x = c.args in
    let d = c.draw.ensures ∙ ap (draw (field_of x.f)) (get_or-take (x.n - 1) x.nz.now l.k 0 (omega (arith, length-take-le (x.n - 1) x.nz.now (omega arith)))) in
    (simp length-set l.invariant.0, run-next _ _ _ _ _ l.invariant.1 (ap (λ (y : ℕ). set l.list l.k y) d))

pub returns : goal.returns
unfolding four_of
returns c =
    let x = c.args in
    let e : c.loop-k.k ≡ x.n - 1 = omega (arith, length-take-le (x.n - 1) x.nz.now (omega arith)) in
    ap (λ (l : List ℕ). set l (x.n - 1) x.last) (run_done _ _ _ _ _ c.loop-k.invariant.1 e) ∙ each_last _ 4 _ _ (omega arith)
