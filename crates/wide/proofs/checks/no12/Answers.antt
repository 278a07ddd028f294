-- `checks::no12` meets its contract: what is opened at a Scale is the pivot's value times nonzero draws, and is 0 where the value is; no other
-- place has a pivot.
-- Assumes nothing.
use mathlib.Core.Path.{◌≡◌, ap, ◌∙◌}
use Prim.Native.Nat.{◌+◌}
use native.Mathlib.Omega.{arith}
use Rattle.std.proofs.Common.{rules}
use Rattle.table.specs.Layout.{Inside}
use Rattle.course.specs.declared.Step.TheVariants.{Scale}
use Rattle.course.specs.StepList.{cost_in}
use Rattle.walk.proofs.Acted.{inside}
use Rattle.pattern.specs.declared.WidePlace.TheVariants.{At}
use Rattle.pattern.specs.PatternList.{cost_of}
use Rattle.pattern.proofs.Standing.{kept-says}
use Rattle.verdict.proofs.Verdicts.{tests}
use Rattle.wide.specs.WideRefusals.{cost_at, scale_refused, no12}
use Rattle.wide.proofs.Ready.{kept_and_stands, works_at, pivot_told}
use Rattle.wide.proofs.checks.no12.Goals as goal

pub returns-in_default : goal.returns-in_default
unfolding no12 scale_refused
returns-in_default c = search rules

pub returns-in_default-2 : goal.returns-in_default-2
unfolding no12 scale_refused
returns-in_default-2 c = search rules

pub row_of-r-requires : goal.row_of-r-requires
row_of-r-requires c =
    let p = c.args.p in
    omega (arith, (kept-says p.order p.pivots (kept_and_stands p c.requires.p_value).0).few, c.requires.sizes.most)

-- the pivot's place
pub opens_zero-zero-requires : goal.opens_zero-zero-requires
unfolding cost_at cost_of cost_in
opens_zero-zero-requires c =
    let z = c.requires.sizes in
    let at : c.args.p.place ≡ At (Scale c.in-At-Scale.j) = c.in-At-Scale.is ∙ ap At (rw c.in-At-Scale.is at c.in-At-Scale.field-0-is) in
    let w = works_at c.args.p _ z (search rules) c.requires.p_value at in
    let long = rw at at c.requires.p_in_bounds in
    record {
      shaped = record {
        bounded = record {
          shares_low = z.two;
          fits = record { shares_high = z.four; rows_high = z.most; width_high = omega (arith, z.widest) };
        };
        bytes = c.requires.table_len;
      };
      inside = rw c.row_of-r.ensures (inside (w.row_low, w.row_high) w.column_low (omega (arith, w.column_high)));
      draws = (long.0, long.1);
    }

pub returns : goal.returns
unfolding no12 scale_refused cost_at
returns c =
    let o = c.args.p.order in
    let j = c.in-At-Scale.j in
    let at : c.args.p.place ≡ At (Scale j) = c.in-At-Scale.is ∙ ap At (rw c.in-At-Scale.is at c.in-At-Scale.field-0-is) in
    let w = works_at c.args.p _ c.requires.sizes (search rules) c.requires.p_value at in
    let row = c.row_of-r.ensures in
    let pivot : Inside o.rows (o.columns + 1) c.row_of-r.result j =
    rw row (inside (w.row_low, w.row_high) w.column_low (omega (arith, w.column_high))) in
    let long = rw at at c.requires.p_in_bounds in
    rw (at, ← row)
    (tests _ c.refuse_if.ensures (c.opens_zero-zero.ensures ∙ pivot_told o _ _ c.args.table.now c.args.mask.now c.args.nonzero.now pivot c.requires.table_len long.1 c.requires.nonzero_value))
