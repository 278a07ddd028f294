-- `field::reduce` meets its contract: the byte modulo q.
-- Assumes nothing.
use mathlib.Core.Path.{refl, sym}
use native.Mathlib.Nat.{mod-eq_of_lt}
use Rattle.field.specs.Field.{F16, F256, field_of}
use borrow.Author.Tests.{eq-eqb, ne_eqb}
use Rattle.field.proofs.reduce.Goals as goal

pub returns-then-f-eq16 : goal.returns-then-f-eq16
unfolding field_of F16 F256
returns-then-f-eq16 c = rw (eq-eqb c.args.f 16 c.if-f-eq16.true) refl

pub returns-else-f-eq16 : goal.returns-else-f-eq16
unfolding field_of F16 F256
returns-else-f-eq16 c = rw (ne_eqb c.args.f 16 c.if-f-eq16.false) (sym (mod-eq_of_lt c.ranges.x.fits))
