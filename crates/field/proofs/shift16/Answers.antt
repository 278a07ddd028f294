-- `field::shift16` meets its contract: by its test at the powers of x, the sum of the turns is the product.
-- Assumes nothing.
use Rattle.std.proofs.Common.{◌∙◌}
use native.Mathlib.Nat.{mod-lt}
use lib.Dec.{lit<}
use Rattle.field.specs.Field.{F16}
use Rattle.field.proofs.Shift.{shift_add-product, test4}
use Rattle.field.proofs.shift16.Goals as goal

pub returns : goal.returns
unfolding F16
returns c = c.shift_add.ensures ∙ shift_add-product 4 3 test4 (mod-lt c.args.a (lit< tt)) (mod-lt c.args.b (lit< tt))
