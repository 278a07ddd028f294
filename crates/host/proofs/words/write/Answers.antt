-- `words::write` meets its contract: eight words, written at once.
-- Assumes nothing.
use Rattle.host.specs.Words.{words_of}
use Rattle.host.proofs.words.write.Goals as goal

pub returns : goal.returns
unfolding words_of
returns c = rw (c.copy_from_slice.ensures.after, c.spot_of-s.ensures)
