-- `words::wide_place_of` meets its contract: 8 alone is short.
-- Assumes nothing.
use mathlib.Core.Logic.{⊎_elim}
use Rattle.host.proofs.WideRecord.{is_short, not_8, not_short_j, not_short_k}
use Rattle.host.proofs.words.wide_place_of.Goals as goal

pub returns-then-k-eq0 : goal.returns-then-k-eq0
returns-then-k-eq0 c = is_short c.args.step c.args.j c.args.k c.if-step-eq8.true c.if-j-eq0.true c.if-k-eq0.true

pub returns : goal.returns
returns c =
    let a = c.args in
    rw (c.widened.ensures, c.place_of.ensures)
    (⊎_elim (λ w. not_short_k a.step a.j a.k w.0 w.1 w.2)
    (⊎_elim (λ w. not_short_j a.step a.j a.k w.0 w.1) (λ w. not_8 a.step a.j a.k w))
    c.else-step-eq8.either)
