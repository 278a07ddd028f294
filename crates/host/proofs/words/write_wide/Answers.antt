-- `words::write_wide` meets its contract: ten words, and the slots behind them.
-- Assumes nothing.
use Rattle.host.specs.WideWords.{wide_words_of}
use Rattle.host.proofs.words.write_wide.Goals as goal

pub returns : goal.returns
unfolding wide_words_of
returns c = rw (c.write_head.ensures, c.write_slots.ensures, c.wide_spot_of-s.ensures)
