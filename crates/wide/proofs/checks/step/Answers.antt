-- `checks::step` meets its contract: each check in its order, and a pass gives the next ones what they ask for.
-- Assumes nothing.
use mathlib.Core.Path.{◌≡◌, sym, ap}
use native.Mathlib.Omega.{arith}
use lib.ListN.{length}
use Rattle.std.proofs.Common.{rules}
use Rattle.course.specs.declared.Draws.{Draws}
use Rattle.verdict.specs.Told.{passed, ◌or◌}
use Rattle.verdict.specs.Refusals.{no4, no5, exactly}
use Rattle.verdict.proofs.Passes.{same, exactly-says}
use Rattle.wide.specs.WideRefusals.{whole_table, cost_at, placing, step_order}
use Rattle.wide.proofs.Ready.{sized, standing-says}
use Rattle.wide.proofs.checks.step.Goals as goal

pub returns-in_err-sizes : goal.returns-in_err-sizes
unfolding step_order ◌or◌
returns-in_err-sizes c = search rules

pub whole_table-requires : goal.whole_table-requires
whole_table-requires c = sized _ (sym c.in_ok-sizes.ensures)

pub returns-in_err-no4 : goal.returns-in_err-no4
unfolding step_order placing ◌or◌
returns-in_err-no4 c = search rules

pub returns-in_err-no5 : goal.returns-in_err-no5
unfolding step_order placing ◌or◌
returns-in_err-no5 c = search rules

pub standing-requires : goal.standing-requires
standing-requires c = sized _ (sym c.in_ok-sizes.ensures)

pub returns-in_err-standing : goal.returns-in_err-standing
unfolding step_order placing ◌or◌
returns-in_err-standing c = search rules

pub table_rows-requires : goal.table_rows-requires
table_rows-requires c = sized _ (sym c.in_ok-sizes.ensures)

pub returns-in_err-no6 : goal.returns-in_err-no6
unfolding step_order placing ◌or◌
returns-in_err-no6 c = search rules

pub cost_at-d-requires : goal.cost_at-d-requires
cost_at-d-requires c =
    record { sizes = sized _ (sym c.in_ok-sizes.ensures); p_value = (standing-says _ (sym c.in_ok-standing.ensures)).listed }

pub returns-in_err-exactly : goal.returns-in_err-exactly
unfolding step_order placing ◌or◌
returns-in_err-exactly c = search rules

pub no20-requires : goal.no20-requires
unfolding no5
no20-requires c =
    record {
      sizes = sized _ (sym c.in_ok-sizes.ensures);
      p_value = (standing-says _ (sym c.in_ok-standing.ensures)).listed;
      solution_len = same 5 _ (sym c.in_ok-no5.ensures);
    }

pub returns-in_err-no20 : goal.returns-in_err-no20
unfolding step_order placing ◌or◌
returns-in_err-no20 c = search rules

pub no12-requires : goal.no12-requires
unfolding no4
no12-requires c =
    let o = c.args.p.order in
    let d = cost_at o c.args.p.place in
    let e = c.cost_at-d.ensures in
    let lends : passed ≡ exactly o.field d.mask d.nonzero (length c.args.mask.now) c.args.nonzero.now =
    rw (← (ap (λ (d : Draws). d.mask) e), ← (ap (λ (d : Draws). d.nonzero) e)) c.in_ok-exactly.ensures in
    let whole : passed ≡ no4 (whole_table o) (length c.args.table.now) = rw (← c.whole_table.ensures) c.in_ok-no4.ensures in
    let l = exactly-says _ _ _ _ _ (sym lends) in
    record {
      sizes = sized _ (sym c.in_ok-sizes.ensures);
      p_value = (standing-says _ (sym c.in_ok-standing.ensures)).listed;
      table_len = same 4 _ (sym whole);
      p_in_bounds = (omega (arith, l.masks), omega (arith, l.others));
      nonzero_value = l.nonzeros;
    }

pub returns : goal.returns
unfolding step_order placing ◌or◌
returns c = search rules
