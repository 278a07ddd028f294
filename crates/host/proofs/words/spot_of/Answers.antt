-- `words::spot_of` meets its contract, case by case.
-- Assumes nothing.
use Rattle.host.specs.Words.{spot_of}
use Rattle.host.proofs.words.spot_of.Goals as goal

pub returns-in-At : goal.returns-in-At
unfolding spot_of
returns-in-At c = rw (c.in-At.is, c.spot_of_step.ensures)

pub returns-in-Stopped : goal.returns-in-Stopped
unfolding spot_of
returns-in-Stopped c = rw c.in-Stopped.is

pub returns-in-Done : goal.returns-in-Done
unfolding spot_of
returns-in-Done c = rw c.in-Done.is
