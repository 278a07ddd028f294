-- The flag's shares are 0 or 1, so one bit tells them.
use mathlib.Core.Path.{◌≡◌, ◌∙◌}
use Prim.Native.Nat.{◌+◌, ◌*◌, ◌≤◌}
use native.Mathlib.Omega.{arith}
use lib.ListN.{length}
use lib.Seq.{length-take-le, take_at}
use Rattle.sharing.specs.Run.{pairs}
use Rattle.sharing.proofs.Loops.{rest}
use Rattle.table.specs.Layout.{columns_from}
use Rattle.table.specs.Steps.{mix}
use Rattle.table.proofs.Draws.{mix_cost_is}
use Rattle.table.proofs.Lent.{rest_room}
use Rattle.word_table.specs.Table.{by_one}
use Rattle.word_table.proofs.Flagging.{flag_bits}
use Rattle.word_table.proofs.mix.Goals as goal

pub pivot_flag-requires-clause-draws : goal.pivot_flag-requires-clause-draws
pivot_flag-requires-clause-draws c =
    let s = c.args.shape in
    (length-take-le _ _ (omega arith), omega (arith, c.flag_draws-d.ensures.0, mix_cost_is s.field s.shares (columns_from s.columns c.args.j), c.requires.draws))

pub slice_bounds-join_rows-count : goal.slice_bounds-join_rows-count
slice_bounds-join_rows-count c =
    let s = c.args.shape in omega (arith, c.flag_draws-d.ensures.0, mix_cost_is s.field s.shares (columns_from s.columns c.args.j), c.requires.draws)

pub slice_bounds-join_rows-start : goal.slice_bounds-join_rows-start
slice_bounds-join_rows-start c =
    let s = c.args.shape in omega (arith, c.flag_draws-d.ensures.0, mix_cost_is s.field s.shares (columns_from s.columns c.args.j), c.requires.draws)

pub join_rows-requires : goal.join_rows-requires
join_rows-requires c =
    let x = c.args in
    let s = x.shape in
    let room : c.flag_draws-d.result + columns_from s.columns x.j * pairs s.shares ≤ length x.mask.now =
    omega (arith, c.flag_draws-d.ensures.0, mix_cost_is s.field s.shares (columns_from s.columns x.j), c.requires.draws) in
    let flagged : length c.pivot_flag.new.flag ≡ s.shares = c.pivot_flag.auto.flag ∙ length-take-le _ _ (omega arith) in
    rw (take_at _ _ _ flagged) (record {
      worded = c.requires.worded;
      inside = c.requires.inside;
      draws = (flagged, rest_room _ _ x.mask.now room);
      room = (c.requires.room.0, c.requires.room.1, by_one (rw c.pivot_flag.ensures (flag_bits s.field x.mask.now _)));
      below = c.requires.below;
    })

pub returns : goal.returns
unfolding mix
returns c =
    let flagged : length c.pivot_flag.new.flag ≡ c.args.shape.shares = c.pivot_flag.auto.flag ∙ length-take-le _ _ (omega arith) in
    rw (take_at _ _ _ flagged, rest, c.pivot_flag.ensures, c.flag_draws-d.ensures.0) at c.join_rows.ensures
