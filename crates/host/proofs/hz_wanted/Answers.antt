-- `hz_wanted` meets its contract: the solver's outcome in words, or code 99.
-- Assumes nothing.
use Rattle.host.specs.Faces.{hz_wanted}
use Rattle.host.proofs.Faces.{words_wrong, words_right_lem, not_words-or-four, words-and-four, hands}
use Rattle.host.proofs.hz_wanted.Goals as goal

pub returns-then-record_words-ne8 : goal.returns-then-record_words-ne8
unfolding hz_wanted
returns-then-record_words-ne8 c = words_wrong _ _ _ _ (not_words-or-four _ _ _ c.then-record_words-ne8.either)

pub returns : goal.returns
unfolding hz_wanted
returns c =
    words_right_lem _ _ _ _ _ (words-and-four _ _ _ c.if-record_words-ne8.false c.if-answer-ne4.false)
    (hands _ _ _ c.say.ensures _ _ _ _ (rw c.read.ensures at c.wanted-w.ensures) c.reply.ensures)
