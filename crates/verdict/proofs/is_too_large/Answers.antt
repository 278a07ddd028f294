-- `is_too_large` meets its contract: no byte is 256 or more.
-- Assumes nothing.
use mathlib.Core.Path.{sym}
use native.Mathlib.Omega.{arith}
use borrow.Author.Tests.{eq-eqb, ne_eqb, lt-leb}
use Rattle.field.specs.Field.{field_of, F16, F256}
use Rattle.verdict.specs.Refusals.{too_large}
use Rattle.verdict.proofs.is_too_large.Goals as goal

pub returns-then-f-eq16 : goal.returns-then-f-eq16
unfolding too_large field_of F16
returns-then-f-eq16 c = rw (eq-eqb _ _ c.if-f-eq16.true)

pub returns-else-f-eq16 : goal.returns-else-f-eq16
unfolding too_large field_of F256
returns-else-f-eq16 c = rw (ne_eqb _ _ c.if-f-eq16.false) (sym (lt-leb 256 c.args.x (omega arith)))
