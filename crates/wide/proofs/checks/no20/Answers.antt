-- `checks::no20` meets its contract: at a Lift the byte of its unknown is looked at, and no other place reads the solution.
-- Assumes nothing.
use mathlib.Core.Path.{ap, ◌∙◌}
use native.Mathlib.Omega.{arith}
use Rattle.std.proofs.Common.{rules}
use Rattle.course.specs.declared.Step.TheVariants.{Lift}
use Rattle.pattern.specs.declared.WidePlace.TheVariants.{At}
use Rattle.solver.specs.Refusals.{lift_refused}
use Rattle.wide.specs.WideRefusals.{no20}
use Rattle.wide.proofs.Ready.{works_at}
use Rattle.wide.proofs.checks.no20.Goals as goal

pub returns-in_default : goal.returns-in_default
unfolding no20 lift_refused
returns-in_default c = search rules

pub returns-in_default-2 : goal.returns-in_default-2
unfolding no20 lift_refused
returns-in_default-2 c = search rules

-- the column of the Lift
pub overflow_sub-x : goal.overflow_sub-x
overflow_sub-x c =
    let at = c.in-At-Lift.is ∙ ap At (rw c.in-At-Lift.is at c.in-At-Lift.field-0-is) in
    (works_at c.args.p (Lift c.in-At-Lift.j) c.requires.sizes (search rules) c.requires.p_value at).column_low

pub bounds-solution-j : goal.bounds-solution-j
bounds-solution-j c =
    let at = c.in-At-Lift.is ∙ ap At (rw c.in-At-Lift.is at c.in-At-Lift.field-0-is) in
    let w = works_at c.args.p (Lift c.in-At-Lift.j) c.requires.sizes (search rules) c.requires.p_value at in
    omega (arith, c.requires.solution_len, w.column_low, w.column_high)

pub returns : goal.returns
unfolding no20 lift_refused
returns c = search rules
