-- `words::wide_spot_of` meets its contract, case by case.
-- Assumes nothing.
use Rattle.host.specs.WideWords.{wide_spot_of}
use Rattle.host.proofs.words.wide_spot_of.Goals as goal

pub returns-in-At : goal.returns-in-At
unfolding wide_spot_of
returns-in-At c = rw (c.in-At.is, c.spot_of_step.ensures)

pub returns-in-Short : goal.returns-in-Short
unfolding wide_spot_of
returns-in-Short c = rw c.in-Short.is

pub returns-in-Done : goal.returns-in-Done
unfolding wide_spot_of
returns-in-Done c = rw c.in-Done.is
