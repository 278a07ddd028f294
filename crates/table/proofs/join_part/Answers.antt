-- `table::join_part` meets its contract: the columns from o on are copied, and what it lends are those from p on, and the copy.
-- Assumes nothing.
use mathlib.Core.Path.{◌≡◌, ◌∙◌}
use Prim.Native.Nat.{◌*◌, ◌≤◌}
use native.Mathlib.Omega.{arith}
use lib.ListN.{length, drop, replicate}
use lib.Seq.{length-take-le}
use Rattle.sharing.specs.Bounds.{row_room}
use Rattle.table.specs.Code.Joining.{join_part}
use Rattle.table.proofs.Parts.{part-lent, put-lent}
use Rattle.table.proofs.Rows.{bytes_small, join_row-front}
use Rattle.table.proofs.join_part.Goals as goal

pub returns : goal.returns
unfolding join_part
returns g c =
    let small : c.args.columns * c.args.n ≤ row_room =
    omega (arith, bytes_small {n = c.args.n} {columns = c.args.columns} c.requires.le_n.1 c.requires.le_n.3) in
    let copied : length c.copy_into.new.dst ≡ c.args.columns * c.args.n =
    c.copy_into.auto.dst ∙ length-take-le _ _ small in
    let x = c.args in
    let l = x.columns * x.n in
    rw (put-lent l x.p _ x.table.now, c.join_row.ensures, join_row-front x.f x.n x.columns g.S.Sign.minus x.mask.now x.factor.now c.copy_into.new.dst (drop l (replicate row_room 0)) _ copied, c.copy_into.ensures, part-lent l x.o x.table.now, part-lent l x.p x.table.now)
