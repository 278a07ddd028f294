-- `hz_wide_start` meets its contract: the outcome of `wide::start` in words, or code 99.
-- Assumes nothing.
use Rattle.host.specs.Faces.{hz_wide_start}
use Rattle.host.proofs.Faces.{words_wrong, words_right_lem, not_words-or-four, words-and-four, hands_fresh, hands_no_record}
use Rattle.host.proofs.hz_wide_start.Goals as goal

pub returns-then-record_words-ne106 : goal.returns-then-record_words-ne106
unfolding hz_wide_start
returns-then-record_words-ne106 c = words_wrong _ _ _ _ (not_words-or-four _ _ _ c.then-record_words-ne106.either)

pub returns-in-Ok : goal.returns-in-Ok
unfolding hz_wide_start
returns-in-Ok c =
    words_right_lem _ _ _ _ _ (words-and-four _ _ _ c.if-record_words-ne106.false c.if-answer-ne4.false)
    (hands_fresh _ _ _ c.say.ensures _ _ _ _ _ (rw c.in-Ok.is at c.start.ensures) c.fresh.ensures c.write_wide.ensures)

pub returns-in-Err : goal.returns-in-Err
unfolding hz_wide_start
returns-in-Err c =
    words_right_lem _ _ _ _ _ (words-and-four _ _ _ c.if-record_words-ne106.false c.if-answer-ne4.false)
    (hands_no_record _ _ _ c.say-in-Err.ensures _ _ _ _ (rw c.in-Err.is at c.start.ensures) c.reply.ensures)
