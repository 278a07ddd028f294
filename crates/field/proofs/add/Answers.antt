-- `field::add` meets its contract: in both fields the sum is exclusive or, and the mask leaves the field's bits.
-- Assumes nothing.
use Rattle.std.proofs.Common.{◌≡◌, ℕ, ◌%◌, ap, sym, ◌∙◌, eq-eqb}
use lib.Bits.{bit_and, and_mask}
use borrow.Author.Tests.{ne_eqb}
use Rattle.field.specs.Field.{F16, F256, field_of}
use Rattle.field.proofs.Fields.{binary_of, add-xor}
use Rattle.field.proofs.add.Goals as goal
use Rattle.field.proofs.add.Goals.{then-f-eq16, else-f-eq16}

mask16 : (f y : ℕ) → f ≡ 16 → bit_and y 15 ≡ y % (field_of f).q
unfolding field_of F16
mask16 f y e = rw (eq-eqb f 16 e) (and_mask y 4)

mask256 : (f y : ℕ) → (f ≡ 16 → ⊥) → bit_and y 255 ≡ y % (field_of f).q
unfolding field_of F256
mask256 f y n = rw (ne_eqb f 16 n) (and_mask y 8)

pub returns : goal.returns
returns c =
    let x = c.args in
    let sum = sym (add-xor (binary_of x.f) x.a x.b) in
    elim c.if-f-eq16.branch [
      | then-f-eq16 w ↦ ap (bit_and _) w.m-is ∙ mask16 x.f _ w.if-f-eq16.true ∙ sum
      | else-f-eq16 w ↦ ap (bit_and _) w.m-is ∙ mask256 x.f _ w.if-f-eq16.false ∙ sum
    ]
