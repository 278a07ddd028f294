-- `flag::second_terms` meets its contract: the part of N places of the local array holds the sharing as it was, and its calls are the passes
-- that are left.
-- Assumes nothing.
use Rattle.std.proofs.Common.{length, ap, ◌∙◌}
use lib.Seq.{take_at}
use Rattle.flag.proofs.second_terms.Goals as goal

pub cross-requires : goal.cross-requires
cross-requires g c =
    let p = c.requires in
    let e = ap length c.own_terms.ensures.1 ∙ p.2 in
    rw (take_at _ _ _ e) (p.1, p.3, e, p.6, p.5)

pub returns : goal.returns
returns g c =
    let e = ap length c.own_terms.ensures.1 ∙ c.requires.2 in
    rw (c.sum_pairs.ensures, c.cross.ensures, take_at _ _ _ e, c.own_terms.ensures.0, c.own_terms.ensures.1) at c.reduce.ensures
