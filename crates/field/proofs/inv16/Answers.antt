-- `field::inv16` meets its contract: the table's rule.
-- Assumes nothing.
use Rattle.std.proofs.Common.{refl, get_or}
use Rattle.field.specs.Field.{F16}
use Rattle.field.proofs.Fields.{field16, rule16, inverses16, inverts-inv}
use Rattle.field.proofs.inv16.Goals as goal

pub returns : goal.returns
unfolding inverses16 F16
returns c = rw c.from-i.ensures (inverts-inv F16 field16 (λ a. get_or inverses16 a 0) rule16 refl c.args.a)
