-- `words::write_head` meets its contract: ten words, written at once.
-- Assumes nothing.
use Rattle.host.specs.WideWords.{head_of}
use Rattle.host.proofs.words.write_head.Goals as goal

pub returns : goal.returns
unfolding head_of
returns c = c.copy_from_slice.ensures.after
