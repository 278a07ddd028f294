-- `words::read_wide` meets its contract: ten reads within the words, and the slots behind them.
-- Assumes nothing.
use Rattle.sharing.proofs.Loops.{rest}
use Rattle.host.specs.WideWords.{wide_of}
use Rattle.host.proofs.words.read_wide.Goals as goal

pub returns : goal.returns
unfolding wide_of
returns c =
    let words = c.args.record_words.now in
    rw (c.wide_place_of-place.ensures, c.read_slots-columns.ensures, rest 10 words)
