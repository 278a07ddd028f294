-- `all_small` meets its contract: what the lanes hold, of the last 128 bytes and of the blocks before, is below 16.
-- Assumes nothing.
use native.Mathlib.Omega.{arith}
use borrow.Author.Tests.{ltb-true}
use Rattle.verdict.proofs.SomeBits.{some_small, all_looked}
use Rattle.verdict.proofs.all_small.Goals as goal

pub returns-then-len-lt128 : goal.returns-then-len-lt128
returns-then-len-lt128 c t = some_small c.args.s.now (rw c.some_bits.ensures at (ltb-true c.some_bits.result 16 t))

pub returns : goal.returns
returns c t =
    all_looked c.args.s.now _ _ _ (omega arith) (omega arith) c.join_block.ensures c.join_blocks.ensures
    (rw c.some_bits-2.ensures at (ltb-true c.some_bits-2.result 16 t))
