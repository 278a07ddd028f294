-- `table::join_row` meets its contract: the other row becomes a row of Products, and these join the row.
-- Assumes nothing.
use mathlib.Core.Path.{ap, ◌∙◌}
use Prim.Native.Nat.{ℕ}
use native.Mathlib.Omega.{arith}
use lib.ListN.{take}
use Rattle.field.specs.Field.{field_of}
use Rattle.sharing.specs.Lists.{joined}
use Rattle.table.specs.Steps.{signed}
use Rattle.table.proofs.Rows.{products_join}
use Rattle.table.proofs.join_row.Goals as goal

pub returns : goal.returns
returns g c =
    let x = c.args in
    c.join.ensures
    ∙ ap (λ (k : ℕ). joined (signed (field_of x.f) g.S.Sign.minus) x.row.now (take k c.product.new.row)) c.requires.row_len.0
    ∙ products_join x.f g.S.Sign.minus x.n x.columns x.mask.now x.factor.now x.other.now c.product.new.row x.row.now
    (omega arith) c.requires.row_len.0 c.product.ensures
