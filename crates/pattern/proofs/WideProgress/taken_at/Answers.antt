-- `pattern::WideProgress::taken_at` meets its contract: a Scale has its pivot.
-- Assumes nothing.
use borrow.Author.Rules.{rules}
use Rattle.pattern.proofs.Tallied.{some_found}
use Rattle.pattern.proofs.WideProgress.taken_at.Goals as goal

pub overflow_sub-result-in-Scale-2 : goal.overflow_sub-result-in-Scale-2
overflow_sub-result-in-Scale-2 c =
    (some_found c.args.self c.in-Scale.field-0 c.requires.sizes (search rules) c.requires.self_value.0 (rw c.in-Scale.is at c.requires.self_value.1)).0
