-- `sharing::scale_opened` meets its contract: F16 by its look-ups, and the other field by its products.
-- Assumes nothing.
use borrow.Author.Tests.{eq-eqb}
use Rattle.field.specs.Field.{field_of}
use Rattle.sharing.proofs.scale_opened.Goals as goal

pub returns-then-f-eq16 : goal.returns-then-f-eq16
unfolding field_of
returns-then-f-eq16 c = rw (eq-eqb c.args.f 16 c.if-f-eq16.true) c.look_up16.ensures
