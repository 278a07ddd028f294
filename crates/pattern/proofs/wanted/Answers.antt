-- `pattern::wanted` meets its contract.
-- Assumes nothing.
use Rattle.pattern.specs.PatternList.{wanted}
use Rattle.pattern.proofs.Taken.{full-sum}
use Rattle.pattern.proofs.wanted.Goals as goal

pub returns : goal.returns
unfolding wanted
returns c = rw (c.opening.ensures.0, c.full_cost.ensures.0, full-sum c.args.o c.args.o.columns)
