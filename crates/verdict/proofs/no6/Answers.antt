-- `no6` meets its contract: the scan gives the first place, and where there is none no place meets the test.
-- Assumes nothing.
use mathlib.Core.Path.{sym, ◌∙◌}
use Rattle.verdict.specs.Refusals.{too_large, no6}
use Rattle.verdict.proofs.Scan.{found, unfound}
use Rattle.verdict.proofs.no6.Goals as goal

pub returns-in-Some : goal.returns-in-Some
unfolding no6
returns-in-Some c =
    let w = found (too_large c.args.f) c.args.input.now c.in-Some.place (sym c.first_too_large.ensures ∙ c.in-Some.is) in
    rw (w.0, w.1, c.cell_at.ensures)

pub returns-in_default-2 : goal.returns-in_default-2
unfolding no6
returns-in_default-2 c = rw (unfound (too_large c.args.f) c.args.input.now (sym c.first_too_large.ensures ∙ c.in_default.is))
