-- `field::power254` meets its contract. The loop's invariant: the powers are those that the chain has come to.
-- Assumes nothing.
use Rattle.std.proofs.Common.{◌≡◌}
use Rattle.field.specs.Field.{F256}
use Rattle.field.specs.Code.Power.{along}
use Rattle.field.proofs.power254.Given as goal

abbrev pub invariant-loop-i : goal.invariant-loop-i
invariant-loop-i l = l.powers ≡ along F256.mul l.a l.i
