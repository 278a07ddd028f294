-- `field::power254` meets its contract: a turn of the loop is a link of the chain.
-- Assumes nothing.
use Rattle.std.proofs.Common.{◌≡◌, ℕ, ◌+◌, List, refl, sym, ap, ◌∙◌, get_or, arith}
use lib.ListN.{set}
use Rattle.field.specs.Field.{F256}
use Rattle.field.specs.Code.Power.{chain, linked, along, power254}
use Rattle.field.proofs.Power.{along-next, chain-below}
use Rattle.field.proofs.power254.Goals as goal

pub loop-i-init : goal.loop-i-init
unfolding along
loop-i-init c = refl

pub bounds-powers-from : goal.bounds-powers-from
unfolding chain
bounds-powers-from c = rw c.from.ensures (chain-below c.loop-i-test.true)

pub loop-i-preserved : goal.loop-i-preserved
unfolding linked chain
loop-i-preserved c =
    let s = c.loop-i in
    ap (set s.powers (s.i + 1)) (rw c.from.ensures at c.mul256.ensures) ∙ ap (linked F256.mul s.i) s.invariant ∙ sym (along-next F256.mul c.args.a s.i)

pub returns : goal.returns
unfolding power254
returns c =
    let s = c.loop-i in
    let e : s.i ≡ 11 = omega arith in
    ap (λ (ps : List ℕ). get_or ps 11 0) (s.invariant ∙ ap (along F256.mul c.args.a) e)
