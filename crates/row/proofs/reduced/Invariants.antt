-- `row::reduced` meets its contract. The loop's invariant: the places so far hold the factor's shares, modulo q.
-- Assumes nothing.
use Rattle.field.specs.Field.{field_of}
use Rattle.sharing.specs.Rules.{draw_at}
use Rattle.row.proofs.Filling.{Filled}
use Rattle.row.proofs.reduced.Given as goal

abbrev pub invariant-loop-s : goal.invariant-loop-s
invariant-loop-s l = Filled (draw_at (field_of l.f) l.factor) l.s l.a
