-- `holding` meets its contract: each check in its order, and the first that refuses stands.
-- Assumes nothing.
use mathlib.Core.Path.{sym, ◌∙◌}
use native.Mathlib.Omega.{arith}
use Rattle.std.proofs.Common.{rules}
use Rattle.verdict.specs.Told.{◌or◌}
use Rattle.verdict.proofs.Told.{goes}
use Rattle.verdict.proofs.Passes.{numbered}
use Rattle.exchange.proofs.Fields.{holding_by, stretch_by, table_room}
use Rattle.exchange.proofs.holding.Goals as goal

pub returns-in_err-numbers : goal.returns-in_err-numbers
unfolding ◌or◌
returns-in_err-numbers c = rw (holding_by _ _ c.system_in-s.ensures) (search rules)

pub table_length-requires : goal.table_length-requires
table_length-requires c = let z = numbered _ _ _ (sym (c.in_ok-numbers.ensures)) in (z.four, z.most)

pub returns-in_err-no4 : goal.returns-in_err-no4
unfolding ◌or◌
returns-in_err-no4 c = rw (holding_by _ _ c.system_in-s.ensures) (search rules)

pub rows-requires : goal.rows-requires
rows-requires c = let z = numbered _ _ _ (sym (c.in_ok-numbers.ensures)) in (omega (arith, z.two), z.most)

pub overflow_add-s : goal.overflow_add-s
overflow_add-s c = omega (arith, (table_room _ _ c.system_in-s.ensures c.requires).1)

pub slice_bounds-no6-end : goal.slice_bounds-no6-end
slice_bounds-no6-end c = (table_room _ _ c.system_in-s.ensures c.requires).0

pub returns : goal.returns
returns c =
    let s = c.system_in-s in
    (rw (c.rows.ensures.0, stretch_by _ _ s.ensures) at c.no6.ensures)
    ∙ sym (goes _ _ (sym (rw c.table_length.ensures.0 at c.in_ok-no4.ensures)))
    ∙ sym (goes _ _ (sym (c.in_ok-numbers.ensures)))
    ∙ sym (holding_by _ _ s.ensures)
