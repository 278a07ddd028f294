-- `row::product` meets its contract: each branch calls the passes of its field and number of shares.
-- Assumes nothing.
use mathlib.Core.Path.{◌≡◌}
use native.Mathlib.Omega.{arith}
use Rattle.row.proofs.Reducing.{field_256}
use Rattle.row.proofs.product.Goals as goal

pub returns-in_default-eq2 : goal.returns-in_default-eq2
returns-in_default-eq2 c = rw (field_256 c.args.f c.in_default-eq2.is-0.1, c.in_default-eq2.is-1) c.passes-in_default-eq2.ensures

pub returns-in_default-eq3 : goal.returns-in_default-eq3
returns-in_default-eq3 c = rw (field_256 c.args.f c.in_default-eq3.is-0.1, c.in_default-eq3.is-1) c.passes-in_default-eq3.ensures

pub returns-in_default : goal.returns-in_default
returns-in_default c = let e : c.args.n ≡ 4 = omega arith in rw (field_256 c.args.f c.in_default.is-0.1, e) c.passes-in_default.ensures
