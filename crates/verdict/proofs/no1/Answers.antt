-- `no1` meets its contract: the two tests decide as the definition's do.
-- Assumes nothing.
use mathlib.Core.Path.{◌∙◌}
use borrow.Author.Tests.{eq-eqb, ne_eqb}
use Rattle.verdict.specs.Refusals.{no1}
use Rattle.verdict.proofs.Verdicts.{tests}
use Rattle.verdict.proofs.no1.Goals as goal
use Rattle.verdict.proofs.no1.Goals.{then-field-ne16, else-field-ne16}

pub returns : goal.returns
unfolding no1
returns c =
    tests _ c.refuse_if.ensures
    (elim c.if-field-ne16.branch [
      | then-field-ne16 w ↦ w.refuse_if-is ∙ rw (ne_eqb _ _ w.if-field-ne16.true)
      | else-field-ne16 w ↦ w.refuse_if-is ∙ rw (eq-eqb _ _ w.if-field-ne16.false)
    ])
