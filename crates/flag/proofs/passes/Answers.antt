-- `flag::passes` meets its contract: the two halves of a fold together are And.
-- Assumes nothing.
use Rattle.std.proofs.Common.{sym}
use Rattle.flag.proofs.AndPasses.{passes_done}
use Rattle.flag.proofs.passes.Goals as goal

pub returns : goal.returns
returns g c =
    let q = c.requires in
    let r = c.first_terms.ensures in
    passes_done q.binary g.row.N _ _ _ _ _ _ _ _ (sym q.h_bound.3) q.s_in_bounds.1 q.s_in_bounds.2 r.t_after r.x_after c.second_terms.ensures
