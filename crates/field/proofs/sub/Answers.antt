-- `field::sub` meets its contract: sum and difference are the same.
-- Assumes nothing.
use mathlib.Core.Path.{sym, ◌∙◌}
use Rattle.field.proofs.Fields.{binary_of, sub-add}
use Rattle.field.proofs.sub.Goals as goal

pub returns : goal.returns
returns c = c.add.ensures ∙ sym (sub-add (binary_of c.args.f) c.args.a c.args.b)
