-- `pattern::WideProgress::is_placed` meets its contract: the place is looked at where the pivots are kept.
-- Assumes nothing.
use mathlib.Core.Path.{sym, ◌∙◌}
use Rattle.pattern.specs.Next.{placed}
use Rattle.pattern.proofs.Standing.{kept-says}
use Rattle.pattern.proofs.WideProgress.is_placed.Goals as goal

pub stands-requires : goal.stands-requires
stands-requires c = (c.requires, (kept-says _ _ (sym c.is_kept.ensures ∙ c.if-is_kept.true)).few)

pub returns-then-is_kept : goal.returns-then-is_kept
unfolding placed
returns-then-is_kept c = rw (sym c.is_kept.ensures ∙ c.if-is_kept.true) c.stands.ensures

pub returns-else-is_kept : goal.returns-else-is_kept
unfolding placed
returns-else-is_kept c = rw (sym c.is_kept.ensures ∙ c.if-is_kept.false) c.if-is_kept.false
