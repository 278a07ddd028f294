-- `words::carrying_no` meets its contract: the test is the definition's.
-- Assumes nothing.
use borrow.Author.Tests.{eq-eqb, ne_eqb}
use Rattle.host.specs.Words.{without}
use Rattle.host.proofs.words.carrying_no.Goals as goal

pub returns-then-word-eq0 : goal.returns-then-word-eq0
unfolding without
returns-then-word-eq0 c = rw (eq-eqb _ _ c.if-word-eq0.true)

pub returns-else-word-eq0 : goal.returns-else-word-eq0
unfolding without
returns-else-word-eq0 c = rw (ne_eqb _ _ c.if-word-eq0.false, c.no_place.ensures)
