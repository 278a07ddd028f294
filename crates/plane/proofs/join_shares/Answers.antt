use native.Mathlib.Omega.{arith}
use Rattle.plane.proofs.Joining.{joined_words}
use Rattle.plane.proofs.join_shares.Goals as goal

pub returns : goal.returns
returns g c =
    let x = c.args in
    joined_words g.row.BITS g.row.N x.words x.masks.now x.other.now x.z.now x.row.now x.p.now _ _ (omega arith) (omega arith) c.products.ensures c.combine.ensures
