-- `write_check` meets its contract: a refusal of the numbers stands, and after a pass the order is the rest of it.
-- Assumes nothing.
use mathlib.Core.Path.{sym, ◌∙◌}
use native.Mathlib.Omega.{arith}
use Rattle.std.proofs.Common.{rules}
use Rattle.verdict.specs.Told.{◌or◌}
use Rattle.verdict.proofs.Told.{goes}
use Rattle.verdict.proofs.Passes.{numbered}
use Rattle.exchange.specs.Calls.{write_order}
use Rattle.exchange.proofs.write_check.Goals as goal

pub returns-in_err-numbers : goal.returns-in_err-numbers
unfolding write_order ◌or◌
returns-in_err-numbers c = search rules

pub table_length-wanted-requires : goal.table_length-wanted-requires
table_length-wanted-requires c = let z = numbered _ _ _ (sym (c.in_ok-numbers.ensures)) in (z.four, z.most)

pub rows-requires : goal.rows-requires
rows-requires c = let z = numbered _ _ _ (sym (c.in_ok-numbers.ensures)) in (omega (arith, z.two), z.most)

pub returns : goal.returns
unfolding write_order
returns c =
    (rw (c.table_length-wanted.ensures.0, c.rows.ensures.0) at c.buffers.ensures)
    ∙ sym (goes _ _ (sym (c.in_ok-numbers.ensures)))
