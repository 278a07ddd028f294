-- `field::mul` meets its contract: the field's own product.
-- Assumes nothing.
use borrow.Author.Tests.{eq-eqb, ne_eqb}
use Rattle.field.specs.Field.{field_of}
use Rattle.field.proofs.mul.Goals as goal

pub returns-then-f-eq16 : goal.returns-then-f-eq16
unfolding field_of
returns-then-f-eq16 c = rw (eq-eqb c.args.f 16 c.if-f-eq16.true) c.shift16.ensures

pub returns-else-f-eq16 : goal.returns-else-f-eq16
unfolding field_of
returns-else-f-eq16 c = rw (ne_eqb c.args.f 16 c.if-f-eq16.false) c.mul256.ensures
