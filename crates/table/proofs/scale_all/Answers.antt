-- `table::scale_all` meets its contract. The loop's invariant: the row is a run of the factors so far; the last one comes after the loop.
-- Assumes nothing.
use mathlib.Core.Path.{◌≡◌, refl}
use Prim.Native.Nat.{◌+◌, ◌-◌}
use native.Mathlib.Omega.{arith}
use lib.ListN.{length, take}
use lib.Seq.{length-take-le}
use borrow.Author.Rules.{rules}
use Rattle.std.proofs.lemmas.List.{get_or-take}
use Rattle.field.specs.Field.{field_of}
use Rattle.sharing.specs.Run.{run}
use Rattle.sharing.proofs.Loops.{run_none, run-next, run_done}
use Rattle.table.specs.Steps.{factor_turn, scale_all}
use Rattle.table.proofs.Scaling.{factor_done}
use Rattle.table.proofs.scale_all.Goals as goal

pub loop-i-init : goal.loop-i-init
loop-i-init c = run_none _ _

pub loop-i-preserved : goal.loop-i-preserved
loop-i-preserved c =
    let x = c.args in
    let l = c.loop-i in
    let four : length x.factors.f ≡ 4 = search rules in
    let turns : length (take (x.factors.n - 1) x.factors.f) ≡ x.factors.n - 1 = length-take-le _ _ (omega arith) in
    run-next _ _ _ _ _ l.invariant
    (factor_done (field_of x.f) x.factors.n x.columns _ l.i _ x.factors.f x.mask.now l.row _ _
    (omega arith) (get_or-take _ x.factors.f l.i 0 (omega arith)) refl c.scale.ensures c.refresh_row.ensures)

pub returns : goal.returns
unfolding scale_all
returns c =
    let x = c.args in
    let l = c.loop-i in
    let n = x.factors.n in
    let four : length x.factors.f ≡ 4 = search rules in
    let turns : length (take (n - 1) x.factors.f) ≡ n - 1 = length-take-le _ _ (omega arith) in
    let e : l.i ≡ n - 1 = omega arith in
    let so-far : l.row ≡ run (factor_turn (field_of x.f) n x.columns x.factors.f x.mask.now) (n - 1) x.row.now = run_done _ _ _ _ _ l.invariant e in
    let last : n - 1 + 1 ≡ n = omega arith in
    run_done _ _ _ _ _
    (run-next _ _ _ _ _ so-far
    (factor_done (field_of x.f) n x.columns _ (n - 1) _ x.factors.f x.mask.now l.row _ _ (omega arith) refl refl c.scale_opened.ensures c.refresh_row-2.ensures))
    last
