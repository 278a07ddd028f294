-- `first_too_large` meets its contract: where all are below 16, none meets the test.
-- Assumes nothing.
use mathlib.Core.Path.{sym}
use Rattle.verdict.proofs.SomeBits.{none_too_large-below}
use Rattle.verdict.proofs.Scan.{none_found}
use Rattle.verdict.proofs.first_too_large.Goals as goal

pub returns-then-all_small : goal.returns-then-all_small
returns-then-all_small c =
    let x = c.args in
    sym (none_found _ _ (none_too_large-below x.f x.s.now (c.all_small.ensures c.if-all_small.true)))
