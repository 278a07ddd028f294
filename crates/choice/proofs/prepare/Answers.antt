use Rattle.choice.proofs.Preparing.{both_parts}
use Rattle.choice.proofs.prepare.Goals as goal

pub returns : goal.returns
returns g c =
    let x = c.args in
    both_parts g.row.BITS x.n x.columns _ x.row.now x.other.now _ _ c.live_lanes.ensures c.prepare_part.ensures c.prepare_part-2.ensures
