-- `words::spot_of_step` meets its contract, step by step.
-- Assumes nothing.
use Rattle.host.specs.Words.{step_spot}
use Rattle.host.proofs.words.spot_of_step.Goals as goal

pub returns-in-Mix : goal.returns-in-Mix
unfolding step_spot
returns-in-Mix c = rw c.in-Mix.is

pub returns-in-Check : goal.returns-in-Check
unfolding step_spot
returns-in-Check c = rw c.in-Check.is

pub returns-in-Scale : goal.returns-in-Scale
unfolding step_spot
returns-in-Scale c = rw c.in-Scale.is

pub returns-in-Clear : goal.returns-in-Clear
unfolding step_spot
returns-in-Clear c = rw c.in-Clear.is

pub returns-in-Open : goal.returns-in-Open
unfolding step_spot
returns-in-Open c = rw c.in-Open.is

pub returns-in-Lift : goal.returns-in-Lift
unfolding step_spot
returns-in-Lift c = rw c.in-Lift.is
