use mathlib.Core.Path.{◌≡◌, ◌∙◌}
use Prim.Native.Nat.{◌+◌, ◌≤◌}
use native.Mathlib.Omega.{arith}
use lib.ListN.{length, length-drop}
use lib.Seq.{length-take-le, take_at}
use Rattle.sharing.specs.Run.{pairs}
use Rattle.sharing.proofs.Loops.{rest}
use Rattle.table.specs.Steps.{check}
use Rattle.table.proofs.Draws.{check_cost_is}
use Rattle.word_table.proofs.check.Goals as goal

pub pivot_flag-requires-clause-draws : goal.pivot_flag-requires-clause-draws
pivot_flag-requires-clause-draws c =
    let x = c.args in
    (length-take-le _ _ (omega arith), omega (arith, c.flag_draws-d.ensures.0, check_cost_is x.shape.field x.shape.shares, c.requires.draws))

pub slice_bounds-opening-count : goal.slice_bounds-opening-count
slice_bounds-opening-count c = let x = c.args in omega (arith, c.flag_draws-d.ensures.0, check_cost_is x.shape.field x.shape.shares, c.requires.draws)

pub slice_bounds-opening-start : goal.slice_bounds-opening-start
slice_bounds-opening-start c = let x = c.args in omega (arith, c.flag_draws-d.ensures.0, check_cost_is x.shape.field x.shape.shares, c.requires.draws)

pub opening-requires : goal.opening-requires
opening-requires c =
    let x = c.args in
    let room : c.flag_draws-d.result + pairs x.shape.shares ≤ length x.mask.now = omega (arith, c.flag_draws-d.ensures.0, check_cost_is x.shape.field x.shape.shares, c.requires.draws) in
    let flagged : length c.pivot_flag.new.flag ≡ x.shape.shares = c.pivot_flag.auto.flag ∙ length-take-le _ _ (omega arith) in
    rw (take_at _ _ _ flagged, flagged, rest, length-drop) (omega (arith, room))

pub returns : goal.returns
unfolding check
returns c =
    let flagged : length c.pivot_flag.new.flag ≡ c.args.shape.shares = c.pivot_flag.auto.flag ∙ length-take-le _ _ (omega arith) in
    rw (rest, c.flag_draws-d.ensures.0, take_at _ _ _ flagged, c.pivot_flag.ensures) at c.opening.ensures.0
