-- `flag::first_terms` meets its contract: its calls are the passes that make t, and the first pass over the pairs.
-- Assumes nothing.
use Rattle.std.proofs.Common.{sym, ◌∙◌, rules}
use Rattle.flag.proofs.FreshShift.{refreshed}
use Rattle.flag.proofs.first_terms.Goals as goal

-- written out, so that the edit refresh_as_before can put the other call's in its place
pub sum_pairs-requires : goal.sum_pairs-requires
sum_pairs-requires g c = search rules

pub returns-clause-t_after : goal.returns-clause-t_after
returns-clause-t_after g c =
    let x = c.args in
    let made = rw (c.sum_pairs.ensures, c.shift.ensures) at c.reduce.ensures in
    made ∙ refreshed c.requires.binary x.h g.row.N x.ds.now x.s.now (sym c.requires.h_bound.3)
