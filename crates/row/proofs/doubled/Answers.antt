-- `row::doubled` meets its contract: each branch is the definition of its field.
-- Assumes nothing.
use mathlib.Core.Path.{◌≡◌, refl, ap}
use Prim.Native.Nat.{ℕ, ◌*◌, ◌/◌, ◌%◌}
use native.Mathlib.Omega.{arith}
use lib.Bits.{bit_xor}
use Rattle.row.specs.Code.Streams.{doubled}
use borrow.Author.Tests.{eq-eqb, ne_eqb}
use Rattle.row.proofs.doubled.Goals as goal

pub returns-then-this-eq4 : goal.returns-then-this-eq4
unfolding doubled
returns-then-this-eq4 g c =
    let x = c.args.x in
    let e : x * 2 % 256 % 16 ≡ x * 2 % 16 = omega arith in
    rw (eq-eqb g.row.BITS 4 c.if-this-eq4.true) (ap (λ (y : ℕ). bit_xor y (x / 8 % 2 * 3)) e)

pub returns-else-this-eq4 : goal.returns-else-this-eq4
unfolding doubled
returns-else-this-eq4 g c = rw (ne_eqb g.row.BITS 4 c.if-this-eq4.false) refl
