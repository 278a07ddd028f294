-- `solver::gather` meets its contract: a pass gives the work what it asks for, and that there is a byte for each entry.
-- Assumes nothing.
use Rattle.std.proofs.Common.{rules}
use mathlib.Core.Path.{ap, ◌∙◌}
use Rattle.verdict.specs.Calls.{call, after, gives}
use Rattle.solver.specs.Calls.{gather_call}
use Rattle.verdict.proofs.Verdicts.{passes}
use Rattle.verdict.proofs.Calls.{passes_call}
use Rattle.solver.proofs.Ready.{gathering, gather_ready}
use Rattle.solver.proofs.gather.Goals as goal

pub returns-in_err-gather : goal.returns-in_err-gather
unfolding gather_call call
returns-in_err-gather c = search rules

pub gather-requires-2 : goal.gather-requires-2
gather-requires-2 c =
    let d = gather_ready (gathering _ _ _ (passes _ _ _ c.gather.ensures c.in_ok-gather.was)) in
    record { le_n = d.0; table_len = d.1 }

pub returns : goal.returns
unfolding gather_call
returns c =
    let d = gathering _ _ _ (passes _ _ _ c.gather.ensures c.in_ok-gather.was) in
    ap (after (gives tt)) (rw d.lent.room at c.gather-2.ensures)
    ∙ passes_call _ _ _ _ _ c.gather.ensures c.in_ok-gather.was
