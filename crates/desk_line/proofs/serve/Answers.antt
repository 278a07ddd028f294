-- `desk_line::serve`: the line of the front that was read is that of all that the reader had, and it was written.
-- Assumes nothing.
use Rattle.std.proofs.Common.{rules}
use Rattle.desk_line.proofs.Front.{served}
use Rattle.desk_line.proofs.serve.Goals as goal

pub returns : goal.returns
returns g c = served _ _ _ _ _ c.read_front.new.input _ _ _ _ (search rules) c.in_ok-n.ensures c.line-k.ensures.made c.write_all.ensures.bytes
