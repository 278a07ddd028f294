-- `row::later` meets its contract: its two cases.
-- Assumes nothing.
use mathlib.Core.Path.{sym}
use Rattle.row.proofs.GatherLaw.{later_chosen, later-left}
use Rattle.row.proofs.later.Goals as goal

pub returns-then-d-q : goal.returns-then-d-q
returns-then-d-q g c = sym (later_chosen _ _ _ c.if-d-q.true)

pub returns-else-d-q : goal.returns-else-d-q
returns-else-d-q g c = sym (later-left _ _ _ c.if-d-q.false)
