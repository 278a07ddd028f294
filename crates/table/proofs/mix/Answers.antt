-- `table::mix` meets its contract: the local array holds the flag of T[r,j], the factor, and the join takes the draws behind the flag's.
-- Assumes nothing.
use mathlib.Core.Path.{◌≡◌, ◌∙◌}
use Prim.Native.Nat.{ℕ, ◌+◌, ◌-◌, ◌*◌, ◌≤◌}
use mathlib.Core.Bool.{false}
use mathlib.Core.List.{List, ◌++◌}
use native.Mathlib.Omega.{arith}
use lib.ListN.{length, take, drop}
use lib.Seq.{length-take-le, take_at}
use Rattle.field.specs.Field.{field_of}
use Rattle.sharing.specs.Run.{pairs}
use Rattle.sharing.proofs.Loops.{rest}
use Rattle.flag.specs.Flag.{zero_flag, flag_draws}
use Rattle.table.specs.Layout.{cell, columns_from}
use Rattle.table.specs.Steps.{join_rows, mix}
use Rattle.table.proofs.Parts.{part-lent}
use Rattle.table.proofs.Cells.{cell_in}
use Rattle.table.proofs.Lent.{lent_length, rest_room}
use Rattle.table.proofs.Draws.{mix_cost_is}
use borrow.Author.Rules.{rules}
use Rattle.table.proofs.mix.Goals as goal

-- what join_rows leaves, over its numbers alone: in the need itself every fact of the code stands by, and a search looks through all

left : (f n w r j k p d : ℕ) (ds t flag z y : List ℕ) → length flag ≡ n → p ≡ cell n w r j → d ≡ flag_draws f n
    → flag ≡ zero_flag f ds (take (p + n - p) (drop p t))
    → y ≡ join_rows (field_of f) false n w r k j (take n (flag ++ z)) (take (length ds - d) (drop d ds)) t → y ≡ mix f n w r j k ds t
unfolding mix
left f n w r j k p d ds t flag z y e ep ed ef ey = ey ∙ rw (take_at flag z n e, rest d ds, ef, part-lent n p t, ep, ed)

pub overflow_add-pivot : goal.overflow_add-pivot
overflow_add-pivot c =
    let within : c.cell-pivot.result + c.args.shape.shares ≤ length c.args.table.now =
    omega (arith, cell_in c.args.shape.shares c.requires.inside.0) in
    omega (arith, within)

pub slice_bounds-zero_flag-end-2 : goal.slice_bounds-zero_flag-end-2
slice_bounds-zero_flag-end-2 c =
    let within : c.cell-pivot.result + c.args.shape.shares ≤ length c.args.table.now =
    omega (arith, cell_in c.args.shape.shares c.requires.inside.0) in
    omega (arith, within)

pub zero_flag-requires : goal.zero_flag-requires
zero_flag-requires c =
    let within : c.cell-pivot.result + c.args.shape.shares ≤ length c.args.table.now =
    omega (arith, cell_in c.args.shape.shares c.requires.inside.0) in
    let draws : c.flag_draws-d.result + columns_from c.args.shape.columns c.args.j * pairs c.args.shape.shares ≤ length c.args.mask.now =
    let x = c.args in omega (arith, c.flag_draws-d.ensures.0, mix_cost_is x.shape.field x.shape.shares (columns_from x.shape.columns x.j)) in
    rw (lent_length _ _ _ within) (search rules, search rules, length-take-le _ _ (omega arith), omega (arith, draws, c.flag_draws-d.ensures.0))

pub slice_bounds-join_rows-count : goal.slice_bounds-join_rows-count
slice_bounds-join_rows-count c =
    let draws : c.flag_draws-d.result + columns_from c.args.shape.columns c.args.j * pairs c.args.shape.shares ≤ length c.args.mask.now =
    let x = c.args in omega (arith, c.flag_draws-d.ensures.0, mix_cost_is x.shape.field x.shape.shares (columns_from x.shape.columns x.j)) in
    omega (arith, draws)

pub slice_bounds-join_rows-start : goal.slice_bounds-join_rows-start
slice_bounds-join_rows-start c =
    let draws : c.flag_draws-d.result + columns_from c.args.shape.columns c.args.j * pairs c.args.shape.shares ≤ length c.args.mask.now =
    let x = c.args in omega (arith, c.flag_draws-d.ensures.0, mix_cost_is x.shape.field x.shape.shares (columns_from x.shape.columns x.j)) in
    omega (arith, draws)

pub join_rows-requires-clause-factor_len : goal.join_rows-requires-clause-factor_len
join_rows-requires-clause-factor_len c =
    let draws : c.flag_draws-d.result + columns_from c.args.shape.columns c.args.j * pairs c.args.shape.shares ≤ length c.args.mask.now =
    let x = c.args in omega (arith, c.flag_draws-d.ensures.0, mix_cost_is x.shape.field x.shape.shares (columns_from x.shape.columns x.j)) in
    let flagged : length c.zero_flag.new.out ≡ c.args.shape.shares =
    c.zero_flag.auto.out ∙ length-take-le _ _ (omega arith) in
    let e = flagged in
    (rw (take_at _ _ _ e) e, rest_room _ _ c.args.mask.now draws)

pub returns : goal.returns
returns c =
    let flagged : length c.zero_flag.new.out ≡ c.args.shape.shares =
    c.zero_flag.auto.out ∙ length-take-le _ _ (omega arith) in
    let x = c.args in
    left x.shape.field x.shape.shares x.shape.columns x.r x.j x.k c.cell-pivot.result c.flag_draws-d.result x.mask.now x.table.now _ _ _
    flagged c.cell-pivot.ensures c.flag_draws-d.ensures.0 c.zero_flag.ensures c.join_rows.ensures
