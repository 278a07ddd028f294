-- `checks::step` meets its contract: each check in its order, and the first that refuses stands. What passed gives the next check what it asks for.
-- Assumes nothing.
use Rattle.std.proofs.Common.{rules}
use mathlib.Core.Path.{subst}
use native.Mathlib.Omega.{arith}
use Rattle.course.specs.StepList.{Sizes}
use Rattle.verdict.specs.Told.{◌or◌}
use Rattle.solver.specs.Refusals.{step_order}
use Rattle.verdict.proofs.Verdicts.{passes}
use Rattle.solver.proofs.Ready.{sized, placing-says, lending-says}
use Rattle.solver.proofs.checks.step.Goals as goal

pub returns-in_err-sizes : goal.returns-in_err-sizes
unfolding step_order ◌or◌
returns-in_err-sizes c = search rules

pub placing-requires : goal.placing-requires
placing-requires c = subst Sizes c.order-o.ensures (sized _ (passes _ _ _ c.sizes.ensures c.in_ok-sizes.was))

pub returns-in_err-placing : goal.returns-in_err-placing
unfolding step_order ◌or◌
returns-in_err-placing c = search rules

pub table_rows-requires : goal.table_rows-requires
table_rows-requires c = sized _ (passes _ _ _ c.sizes.ensures c.in_ok-sizes.was)

pub returns-in_err-no6 : goal.returns-in_err-no6
unfolding step_order ◌or◌
returns-in_err-no6 c = search rules

pub lending-requires : goal.lending-requires
lending-requires c = record {
  sizes = sized _ (passes _ _ _ c.sizes.ensures c.in_ok-sizes.was);
  p_value = rw c.order-o.ensures (placing-says _ _ _ (passes _ _ _ c.placing.ensures c.in_ok-placing.was)).listed;
}

pub returns-in_err-lending : goal.returns-in_err-lending
unfolding step_order ◌or◌
returns-in_err-lending c = search rules

pub no20-requires : goal.no20-requires
no20-requires c =
    let p = placing-says _ _ _ (passes _ _ _ c.placing.ensures c.in_ok-placing.was) in
    rw c.order-o.ensures record { p_value = p.listed; solution_len = p.room }

pub returns-in_err-no20 : goal.returns-in_err-no20
unfolding step_order ◌or◌
returns-in_err-no20 c = search rules

pub no12-requires : goal.no12-requires
no12-requires c =
    let z = sized _ (passes _ _ _ c.sizes.ensures c.in_ok-sizes.was) in
    let p = placing-says _ _ _ (passes _ _ _ c.placing.ensures c.in_ok-placing.was) in
    let l = lending-says _ _ _ _ (passes _ _ _ c.lending.ensures c.in_ok-lending.was) in
    record {
      sizes = z;
      p_value = rw c.order-o.ensures p.listed;
      table_len = rw c.order-o.ensures p.whole;
      p_in_bounds = (omega (arith, l.masks), omega (arith, l.others));
      nonzero_value = l.nonzeros;
    }

pub returns : goal.returns
unfolding step_order ◌or◌
returns c = search rules
