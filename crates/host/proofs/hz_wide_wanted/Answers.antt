-- `hz_wide_wanted` meets its contract: the outcome of `wide::wanted` in words, or code 99.
-- Assumes nothing.
use Rattle.host.specs.Faces.{hz_wide_wanted}
use Rattle.host.proofs.Faces.{words_wrong, words_right_lem, not_words-or-four, words-and-four, hands}
use Rattle.host.proofs.hz_wide_wanted.Goals as goal

pub returns-then-record_words-ne106 : goal.returns-then-record_words-ne106
unfolding hz_wide_wanted
returns-then-record_words-ne106 c = words_wrong _ _ _ _ (not_words-or-four _ _ _ c.then-record_words-ne106.either)

pub returns : goal.returns
unfolding hz_wide_wanted
returns c =
    words_right_lem _ _ _ _ _ (words-and-four _ _ _ c.if-record_words-ne106.false c.if-answer-ne4.false)
    (hands _ _ _ c.say.ensures _ _ _ _ (rw c.read_wide.ensures at c.wanted-w.ensures) c.reply.ensures)
