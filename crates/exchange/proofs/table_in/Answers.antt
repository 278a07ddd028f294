-- `table_in` meets its contract: the part that it hands on is the stretch.
-- Assumes nothing.
use mathlib.Core.Path.{sym, ◌∙◌}
use native.Mathlib.Omega.{arith}
use Rattle.exchange.proofs.Fields.{stretch_by}
use Rattle.exchange.proofs.Admitted.{tables, read_gives, read_refuses, read_room}
use Rattle.exchange.proofs.table_in.Goals as goal

pub overflow_add-result : goal.overflow_add-result
overflow_add-result c = omega (arith, (read_room _ _ c.in-Ok.ensures).1)

pub slice_bounds-result-end : goal.slice_bounds-result-end
slice_bounds-result-end c = (read_room _ _ c.in-Ok.ensures).0

pub returns-in-Ok : goal.returns-in-Ok
returns-in-Ok c = let g = read_gives _ _ c.in-Ok.ensures in stretch_by _ _ g.1 ∙ sym (tables _ g.0)

pub returns-in-Err : goal.returns-in-Err
returns-in-Err c = sym (read_refuses _ _ c.in-Err.ensures)
