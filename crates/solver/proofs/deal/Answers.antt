-- `solver::deal` meets its contract: a pass gives the work what it asks for, and that there is a value for each entry.
-- Assumes nothing.
use Rattle.std.proofs.Common.{rules}
use mathlib.Core.Path.{ap, ◌∙◌}
use Rattle.verdict.specs.Calls.{call, after, gives}
use Rattle.solver.specs.Calls.{deal_call}
use Rattle.verdict.proofs.Verdicts.{passes}
use Rattle.verdict.proofs.Calls.{passes_call}
use Rattle.solver.proofs.Ready.{dealing, deal_ready}
use Rattle.solver.proofs.deal.Goals as goal

pub returns-in_err-deal : goal.returns-in_err-deal
unfolding deal_call call
returns-in_err-deal c = search rules

pub deal-requires-2 : goal.deal-requires-2
deal-requires-2 c =
    let d = deal_ready (dealing _ _ _ _ (passes _ _ _ c.deal.ensures c.in_ok-deal.was)) in
    record { le_n = d.0; table_len = d.1 }

pub returns : goal.returns
unfolding deal_call
returns c =
    let d = dealing _ _ _ _ (passes _ _ _ c.deal.ensures c.in_ok-deal.was) in
    ap (after (gives tt)) (rw d.lent.whole at c.deal-2.ensures)
    ∙ passes_call _ _ _ _ _ c.deal.ensures c.in_ok-deal.was
