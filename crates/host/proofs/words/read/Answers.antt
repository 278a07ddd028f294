-- `words::read` meets its contract: eight reads within eight words.
-- Assumes nothing.
use Rattle.host.specs.Words.{progress_of}
use Rattle.host.proofs.words.read.Goals as goal

pub returns : goal.returns
unfolding progress_of
returns c = rw c.place_of.ensures
