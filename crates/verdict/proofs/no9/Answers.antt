-- `no9` meets its contract: the scan gives the first place, and where there is none no place meets the test.
-- Assumes nothing.
use mathlib.Core.Path.{sym, ◌∙◌}
use Rattle.verdict.specs.Refusals.{zero_draw, no9}
use Rattle.verdict.proofs.Scan.{found, unfound}
use Rattle.verdict.proofs.no9.Goals as goal

pub returns-in-Some : goal.returns-in-Some
unfolding no9
returns-in-Some c =
    let w = found (zero_draw c.args.f) c.args.draws.now c.in-Some.place (sym c.first_zero_draw.ensures ∙ c.in-Some.is) in
    rw (w.0, w.1)

pub returns-in-None : goal.returns-in-None
unfolding no9
returns-in-None c = rw (unfound (zero_draw c.args.f) c.args.draws.now (sym c.first_zero_draw.ensures ∙ c.in-None.is))
