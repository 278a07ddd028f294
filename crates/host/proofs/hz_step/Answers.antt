-- `hz_step` meets its contract: the outcome of `solver::step` in words, or code 99.
-- Assumes nothing.
use Rattle.host.specs.Faces.{hz_step}
use Rattle.host.proofs.Faces.{words_wrong, words_right_lem, not_words-or-four, words-and-four, hands_step, hands_no_step}
use Rattle.host.proofs.hz_step.Goals as goal

pub returns-then-record_words-ne8 : goal.returns-then-record_words-ne8
unfolding hz_step
returns-then-record_words-ne8 c = words_wrong _ _ _ _ (not_words-or-four _ _ _ c.then-record_words-ne8.either)

pub returns-in-Ok : goal.returns-in-Ok
unfolding hz_step
returns-in-Ok c =
    words_right_lem _ _ _ _ _ (words-and-four _ _ _ c.if-record_words-ne8.false c.if-answer-ne4.false)
    (hands_step _ _ _ c.say.ensures _ _ _ _ _ _ _ _ (rw (c.read-p.ensures, c.in-Ok.is) at c.step.ensures) c.reply.ensures c.write.ensures)

pub returns-in-Err : goal.returns-in-Err
unfolding hz_step
returns-in-Err c =
    words_right_lem _ _ _ _ _ (words-and-four _ _ _ c.if-record_words-ne8.false c.if-answer-ne4.false)
    (hands_no_step _ _ _ c.say-in-Err.ensures _ _ _ _ _ _ _ (rw (c.read-p.ensures, c.in-Err.is) at c.step.ensures) c.reply-in-Err.ensures)
