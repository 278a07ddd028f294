-- `table::check` meets its contract: the part of n places of the local array holds the flag of the entry, which is opened by the draws behind it.
-- Assumes nothing.
use mathlib.Core.Path.{◌≡◌, ◌∙◌}
use Prim.Native.Nat.{◌+◌, ◌≤◌}
use native.Mathlib.Omega.{arith}
use lib.ListN.{length, length-drop}
use lib.Seq.{length-take-le, take_at}
use Rattle.sharing.specs.Run.{pairs}
use Rattle.sharing.proofs.Loops.{rest}
use Rattle.table.specs.Steps.{check}
use Rattle.table.proofs.Parts.{part-lent}
use Rattle.table.proofs.Cells.{cell_in, entry_length}
use Rattle.table.proofs.Draws.{check_cost_is}
use Rattle.table.proofs.check.Goals as goal

pub overflow_add-p : goal.overflow_add-p
overflow_add-p c =
    let within : c.cell-p.result + c.args.shape.shares ≤ length c.args.table.now =
    omega (arith, c.cell-p.ensures, cell_in c.args.shape.shares c.requires.inside, c.requires.shaped.bytes) in
    omega (arith, within)

pub slice_bounds-zero_flag-end-2 : goal.slice_bounds-zero_flag-end-2
slice_bounds-zero_flag-end-2 c =
    let within : c.cell-p.result + c.args.shape.shares ≤ length c.args.table.now =
    omega (arith, c.cell-p.ensures, cell_in c.args.shape.shares c.requires.inside, c.requires.shaped.bytes) in
    omega (arith, within)

pub zero_flag-requires : goal.zero_flag-requires
zero_flag-requires c =
    let room : c.flag_draws-d.result + pairs c.args.shape.shares ≤ length c.args.mask.now =
    omega (arith, c.flag_draws-d.ensures.0, check_cost_is c.args.shape.field c.args.shape.shares, c.requires.draws) in
    rw (part-lent, c.cell-p.ensures, entry_length _ _ _ _ c.requires.shaped.bytes c.requires.inside)
    (omega arith, omega arith, length-take-le _ _ (omega arith), omega (arith, room, c.flag_draws-d.ensures.0))

pub slice_bounds-opening-count : goal.slice_bounds-opening-count
slice_bounds-opening-count c =
    let room : c.flag_draws-d.result + pairs c.args.shape.shares ≤ length c.args.mask.now =
    omega (arith, c.flag_draws-d.ensures.0, check_cost_is c.args.shape.field c.args.shape.shares, c.requires.draws) in
    omega (arith, room)

pub slice_bounds-opening-start : goal.slice_bounds-opening-start
slice_bounds-opening-start c =
    let room : c.flag_draws-d.result + pairs c.args.shape.shares ≤ length c.args.mask.now =
    omega (arith, c.flag_draws-d.ensures.0, check_cost_is c.args.shape.field c.args.shape.shares, c.requires.draws) in
    omega (arith, room)

pub opening-requires : goal.opening-requires
opening-requires c =
    let room : c.flag_draws-d.result + pairs c.args.shape.shares ≤ length c.args.mask.now =
    omega (arith, c.flag_draws-d.ensures.0, check_cost_is c.args.shape.field c.args.shape.shares, c.requires.draws) in
    let flagged : length c.zero_flag.new.out ≡ c.args.shape.shares =
    c.zero_flag.auto.out ∙ length-take-le _ _ (omega arith) in
    let e = flagged in
    rw (take_at _ _ _ e, e, rest, length-drop) (omega (arith, room))

pub returns : goal.returns
unfolding check
returns c =
    let flagged : length c.zero_flag.new.out ≡ c.args.shape.shares =
    c.zero_flag.auto.out ∙ length-take-le _ _ (omega arith) in
    rw (rest, c.flag_draws-d.ensures.0, take_at _ _ _ flagged, c.zero_flag.ensures, part-lent, c.cell-p.ensures) at c.opening.ensures.0
