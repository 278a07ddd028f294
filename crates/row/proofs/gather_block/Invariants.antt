-- `row::gather_block` meets its contract. The loop's invariant: out, with the block as it is by then, is a run of the bytes so far.
-- Assumes nothing.
use mathlib.Core.Path.{◌≡◌}
use Prim.Native.Nat.{◌+◌, ◌-◌}
use borrow.Rule.Slice.PartMut.{put_mid}
use Rattle.sharing.specs.Run.{run}
use Rattle.row.specs.Code.Gather.{block_turn}
use Rattle.row.proofs.gather_block.Given as goal

abbrev pub invariant-loop-q : goal.invariant-loop-q
invariant-loop-q g l =
    put_mid l.at ((l.at + g.row.BLOCK) - l.at) l.fn.out l.x-items ≡ run (block_turn g.row.N l.span l.c l.at) l.q l.fn.out
