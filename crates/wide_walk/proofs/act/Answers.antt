-- `wide_walk::act` meets its contract: 10 passes the place, so that its row and column are the table's.
-- Assumes nothing.
use mathlib.Core.Path.{◌≡◌}
use native.Mathlib.Omega.{arith}
use lib.ListN.{length}
use Rattle.sharing.specs.Bounds.{most_rows}
use Rattle.pattern.specs.PatternList.{cost_of}
use Rattle.pattern.proofs.Standing.{kept-says}
use Rattle.pattern.proofs.Placed.{placed_at}
use Rattle.wide_walk.specs.WideWalk.{opened, acted}
use Rattle.wide_walk.proofs.Walked.{other_row}
use borrow.Author.Rules.{rules}
use Rattle.wide_walk.proofs.act.Goals as goal

pub row_of-r-requires : goal.row_of-r-requires
row_of-r-requires c = omega (arith, (kept-says c.args.o c.args.v c.requires.v_value.0).few, c.requires.sizes.most)

pub perform-requires : goal.perform-requires
unfolding cost_of
perform-requires c =
    let a = c.args in
    let p = c.requires in
    let z = p.sizes in
    let slots : length a.v.columns ≡ most_rows = search rules in
    let w = placed_at a.o z a.v slots p.v_value.0 a.s p.v_value.1 in
    rw c.row_of-r.ensures
    (record {
      shaped = record {
        bounded = record {
          shares_low = z.two;
          fits = record { shares_high = z.four; rows_high = z.most; width_high = omega (arith, z.widest) };
        };
        bytes = p.table_len.0;
      };
      row = ((w.row_low, w.row_high), other_row _ _ a.s w.other);
      bound = (w.column_low, omega (arith, w.column_high), rw p.table_len.1 w.column_high);
      s_in_bounds = p.s_in_bounds;
    })

pub returns : goal.returns
unfolding opened acted
returns c =
    let e = c.row_of-r.ensures in
    record { value = rw e at c.perform.ensures.value; solution_after = rw e at c.perform.ensures.solution_after }
