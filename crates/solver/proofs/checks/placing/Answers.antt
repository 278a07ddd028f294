-- `checks::placing` meets its contract: each check in its order, and the first that refuses stands.
-- Assumes nothing.
use Rattle.std.proofs.Common.{rules}
use mathlib.Core.Path.{sym, ◌∙◌}
use Rattle.course.proofs.Closed.{kept}
use Rattle.verdict.specs.Told.{◌or◌}
use Rattle.solver.specs.Refusals.{placing}
use Rattle.solver.proofs.Ready.{stands, agrees_so}
use Rattle.solver.proofs.checks.placing.Goals as goal
use Rattle.solver.proofs.checks.placing.Goals.{then-listed, else-listed}

pub returns-in_err-no4 : goal.returns-in_err-no4
unfolding placing ◌or◌
returns-in_err-no4 c = search rules

pub returns-in_err-no5 : goal.returns-in_err-no5
unfolding placing ◌or◌
returns-in_err-no5 c = search rules

pub part_of-requires : goal.part_of-requires
part_of-requires c = (c.requires.most, stands _ _ (sym c.is_placed-listed.ensures ∙ c.if-listed.true))

pub agrees-matched-requires : goal.agrees-matched-requires
agrees-matched-requires c = rw (c.order-o.ensures, c.part_of.ensures) (c.requires, kept _ c.requires _ (stands _ _ (sym c.is_placed-listed.ensures ∙ c.if-listed.true)))

-- whether the counters are looked at, and match
pub standing-requires : goal.standing-requires
standing-requires c =
    let p = c.args.p in (
      c.is_placed-listed.ensures,
      elim c.if-listed.branch [
        | then-listed w ↦
            rw w.if-listed.true
            (w.matched-is ∙ w.agrees-matched.ensures
            ∙ rw (c.order-o.ensures, w.part_of.ensures) (agrees_so p (c.requires) (sym c.is_placed-listed.ensures ∙ w.if-listed.true)))
        | else-listed w ↦ rw w.if-listed.false (w.matched-is ∙ w.if-listed.false)
      ],
    )

pub returns : goal.returns
unfolding placing ◌or◌
returns c = search rules
