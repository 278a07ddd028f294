-- `checks::wanted` meets its contract: each check in its order, and the first that refuses stands.
-- Assumes nothing.
use Rattle.std.proofs.Common.{rules}
use mathlib.Core.Path.{sym, ◌∙◌, subst}
use Rattle.course.proofs.Closed.{kept}
use Rattle.course.specs.StepList.{Sizes}
use Rattle.verdict.specs.Told.{◌or◌}
use Rattle.solver.specs.Refusals.{wanted_order}
use Rattle.verdict.proofs.Verdicts.{passes}
use Rattle.solver.proofs.Ready.{sized, stands, agrees_so}
use Rattle.solver.proofs.checks.wanted.Goals as goal
use Rattle.solver.proofs.checks.wanted.Goals.{then-listed, else-listed}

pub returns-in_err-sizes : goal.returns-in_err-sizes
unfolding wanted_order ◌or◌
returns-in_err-sizes c = search rules

pub part_of-requires : goal.part_of-requires
part_of-requires c = ((subst Sizes c.order-o.ensures (sized _ (passes _ _ _ c.sizes.ensures c.in_ok-sizes.was))).most, stands _ _ (sym c.is_placed-listed.ensures ∙ c.if-listed.true))

pub agrees-matched-requires : goal.agrees-matched-requires
agrees-matched-requires c =
    let z = subst Sizes c.order-o.ensures (sized _ (passes _ _ _ c.sizes.ensures c.in_ok-sizes.was)) in
    rw (c.order-o.ensures, c.part_of.ensures) (z, kept _ z _ (stands _ _ (sym c.is_placed-listed.ensures ∙ c.if-listed.true)))

-- whether the counters are looked at, and match
pub standing-requires : goal.standing-requires
standing-requires c =
    let p = c.args.p in (
      c.is_placed-listed.ensures,
      elim c.if-listed.branch [
        | then-listed w ↦
            rw w.if-listed.true
            (w.matched-is ∙ w.agrees-matched.ensures
            ∙ rw (c.order-o.ensures, w.part_of.ensures) (agrees_so p (subst Sizes c.order-o.ensures (sized _ (passes _ _ _ c.sizes.ensures c.in_ok-sizes.was))) (sym c.is_placed-listed.ensures ∙ w.if-listed.true)))
        | else-listed w ↦ rw w.if-listed.false (w.matched-is ∙ w.if-listed.false)
      ],
    )

pub returns : goal.returns
unfolding wanted_order ◌or◌
returns c = search rules
