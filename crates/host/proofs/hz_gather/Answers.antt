-- `hz_gather` meets its contract: the solver's outcome in words, or code 99.
-- Assumes nothing.
use borrow.Author.Tests.{eq-eqb, ne_eqb}
use Rattle.host.specs.Faces.{hz_gather}
use Rattle.host.proofs.Faces.{words_wrong, words_right_lem, hands}
use Rattle.host.proofs.hz_gather.Goals as goal

pub returns-then-answer-ne4 : goal.returns-then-answer-ne4
unfolding hz_gather
returns-then-answer-ne4 c = words_wrong _ _ _ _ (ne_eqb _ _ c.if-answer-ne4.true)

pub returns : goal.returns
unfolding hz_gather
returns c =
    words_right_lem _ _ _ _ _ (eq-eqb _ _ c.if-answer-ne4.false)
    (hands _ _ _ c.say.ensures _ _ _ _ c.gather-f.ensures c.reply.ensures)
