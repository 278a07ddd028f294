-- `row::reduced` meets its contract. The loop's invariant: the places so far hold the factor's shares, modulo q.
-- Assumes nothing.
use native.Mathlib.Omega.{arith}
use Rattle.row.proofs.Filling.{filled_all}
use Rattle.row.proofs.reduced.Goals as goal

pub returns : goal.returns
returns c = filled_all _ c.loop-s.s _ c.loop-s.a (omega arith) (omega arith) c.loop-s.invariant
