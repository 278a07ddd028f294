-- `words::byte_of` meets its contract: a word that is no byte becomes 255.
-- Assumes nothing.
use Rattle.std.proofs.Common.{rules}
use Rattle.host.specs.WideWords.{byte_of}
use Rattle.host.proofs.words.byte_of.Goals as goal

pub returns : goal.returns
unfolding byte_of
returns c = search rules
