-- `checks::no12` meets its contract: what is opened at a Scale is the pivot's value times nonzero draws, and is 0 where the value is; no other
-- place has a pivot.
-- Assumes nothing.
use Rattle.std.proofs.Common.{rules}
use mathlib.Core.Path.{ap, ◌∙◌}
use Rattle.course.specs.declared.Place.TheVariants.{At}
use Rattle.course.specs.StepList.{cost_of, cost_in, revealed_by}
use Rattle.walk.proofs.Acted.{square}
use Rattle.solver.specs.Refusals.{cost_at, column_of, no12, zero_pivot}
use Rattle.verdict.proofs.Verdicts.{tests}
use Rattle.solver.proofs.Ready.{at-step, pivot_cell, pivot_told}
use Rattle.solver.proofs.checks.no12.Goals as goal

pub returns-in_default : goal.returns-in_default
unfolding no12 revealed_by zero_pivot
returns-in_default c = search rules

pub returns-in_default-2 : goal.returns-in_default-2
unfolding no12 revealed_by zero_pivot
returns-in_default-2 c = search rules

pub opens_zero-zero-requires-clause-shaped : goal.opens_zero-zero-requires-clause-shaped
opens_zero-zero-requires-clause-shaped c = record { bounded = square c.requires.sizes; bytes = c.requires.table_len }

pub opens_zero-zero-requires-clause-inside : goal.opens_zero-zero-requires-clause-inside
opens_zero-zero-requires-clause-inside c =
    let e = c.in-At-Scale.is ∙ ap At (rw c.in-At-Scale.is at c.in-At-Scale.field-0-is) in
    pivot_cell c.args.o _ (at-step c.args.o _ _ e c.requires.p_value)

pub opens_zero-zero-requires-clause-draws : goal.opens_zero-zero-requires-clause-draws
unfolding cost_at cost_of cost_in
opens_zero-zero-requires-clause-draws c =
    let e = c.in-At-Scale.is ∙ ap At (rw c.in-At-Scale.is at c.in-At-Scale.field-0-is) in
    let long = rw e at c.requires.p_in_bounds in
    (long.0, long.1)

pub returns : goal.returns
unfolding no12 revealed_by column_of cost_at
returns c =
    let p = c.requires in
    let e = c.in-At-Scale.is ∙ ap At (rw c.in-At-Scale.is at c.in-At-Scale.field-0-is) in
    rw e
    (tests _ c.refuse_if.ensures
    (c.opens_zero-zero.ensures
    ∙ pivot_told _ _ _ _ _ (at-step c.args.o _ _ e p.p_value) p.table_len (rw e at p.p_in_bounds).1 p.nonzero_value))
