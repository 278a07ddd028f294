-- `cell_in` meets its contract: a quotient and a remainder are no larger than the entry's number, so that one more fits.
-- Assumes nothing.
use native.Mathlib.Nat.{div-le_self, mod-le}
use native.Mathlib.Omega.{arith}
use Rattle.verdict.proofs.cell_in.Goals as goal

pub overflow_add-row : goal.overflow_add-row
overflow_add-row c = record { fits = omega (arith, div-le_self c.args.entry c.args.width) }

pub overflow_add-column : goal.overflow_add-column
overflow_add-column c = record { fits = omega (arith, mod-le c.args.entry c.args.width) }
