-- `words::widened` meets its contract, case by case.
-- Assumes nothing.
use Rattle.host.specs.WideWords.{widened}
use Rattle.host.proofs.words.widened.Goals as goal

pub returns-in-At : goal.returns-in-At
unfolding widened
returns-in-At c = rw c.in-At.is

pub returns-in-Stopped : goal.returns-in-Stopped
unfolding widened
returns-in-Stopped c = rw c.in-Stopped.is

pub returns-in-Done : goal.returns-in-Done
unfolding widened
returns-in-Done c = rw c.in-Done.is
