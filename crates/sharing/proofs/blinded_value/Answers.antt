-- `sharing::blinded_value` meets its contract: the part of n places of the local array holds the sharing, then its blinding, which is opened.
-- Assumes nothing.
use Rattle.std.proofs.Common.{ap, ◌∙◌, length, length-drop, arith}
use lib.Seq.{take_at}
use Rattle.sharing.proofs.Loops.{rest}
use Rattle.sharing.specs.Rules.{blinded_value, inversion_draws}
use Rattle.sharing.proofs.blinded_value.Goals as goal

pub slice_bounds-opening-count : goal.slice_bounds-opening-count
unfolding inversion_draws
slice_bounds-opening-count c = omega arith

pub slice_bounds-opening-start : goal.slice_bounds-opening-start
unfolding inversion_draws
slice_bounds-opening-start c = omega arith

pub opening-requires : goal.opening-requires
unfolding inversion_draws
opening-requires c =
    let copied = ap length c.copy_into.ensures in
    let blind_length = rw (take_at _ _ _ copied) at c.blind.auto.s ∙ copied in
    rw (take_at _ _ _ blind_length, blind_length, rest, length-drop) (omega arith)

pub returns : goal.returns
unfolding blinded_value
returns c =
    let copied = ap length c.copy_into.ensures in
    let blind_length = rw (take_at _ _ _ copied) at c.blind.auto.s ∙ copied in
    rw (rest, take_at _ _ _ blind_length, c.blind.ensures, take_at _ _ _ copied, c.copy_into.ensures) at c.opening.ensures.0
