-- `wide::wanted` meets its contract: a pass gives the draws of the record's place.
-- Assumes nothing.
use mathlib.Core.Path.{sym}
use Rattle.std.proofs.Common.{rules}
use Rattle.verdict.specs.Calls.{call}
use Rattle.wide.specs.WideCalls.{wanted_call}
use Rattle.wide.proofs.Ready.{wanting}
use Rattle.wide.proofs.wanted.Goals as goal

pub cost_at-requires : goal.cost_at-requires
cost_at-requires c = let g = wanting _ (sym c.in_ok-wanted.ensures) in record { sizes = g.0; p_value = g.1.listed }

pub returns-in_err-wanted : goal.returns-in_err-wanted
unfolding wanted_call call
returns-in_err-wanted c = search rules

pub returns : goal.returns
unfolding wanted_call call
returns c = search rules
