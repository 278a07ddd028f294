-- `walk::act` meets its contract: a step of the list is done with row j for column j.
-- Assumes nothing.
use native.Mathlib.Omega.{arith}
use Rattle.course.specs.StepList.{cost_of}
use Rattle.course.proofs.Within.{within, column_in}
use Rattle.walk.specs.Act.{opened, acted}
use Rattle.walk.proofs.Acted.{square, other_row}
use Rattle.walk.proofs.act.Goals as goal

pub perform-requires : goal.perform-requires
unfolding cost_of
perform-requires c =
    let p = c.requires in
    let u = within c.args.o.size c.args.s p.s_value in
    let w = column_in c.args.o.size c.args.s u in
    rw c.column_of-r.ensures
    (record {
      shaped = record { bounded = square p.sizes; bytes = p.table_len.0 };
      row = (w, other_row c.args.o.size c.args.s u);
      bound = (w.0, omega arith, rw p.table_len.1 w.1);
      s_in_bounds = p.s_in_bounds;
    })

pub returns : goal.returns
unfolding opened acted
returns c =
    let e = c.column_of-r.ensures in
    record { value = rw e at c.perform.ensures.value; solution_after = rw e at c.perform.ensures.solution_after }
