-- `flag::complement` meets its contract: the word of ones is q - 1 in each field.
-- Assumes nothing.
use Rattle.std.proofs.Common.{◌≡◌, Bool, true, false, ◌-◌, ◌%◌, refl}
use Rattle.field.specs.Field.{field_of, pick, F16, F256}
use Rattle.flag.proofs.complement.Goals as goal

ones : (t : Bool) → 255 % (pick t F16 F256).q ≡ (pick t F16 F256).q - 1
unfolding F16 F256
ones true = refl
ones false = refl

pub returns : goal.returns
returns c =
    let B = c.requires.binary in
    let e : 255 % (field_of c.args.f).q ≡ (field_of c.args.f).q - 1 = rw B.is (ones B.sixteen) in
    rw (c.reduce-ones.ensures, e) at c.add_at.ensures
