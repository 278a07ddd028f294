-- `checks::no20` meets its contract: at a Lift the byte of its unknown is looked at, and no other place reads the solution.
-- Assumes nothing.
use Rattle.std.proofs.Common.{rules}
use mathlib.Core.Path.{ap, ◌∙◌}
use native.Mathlib.Omega.{arith}
use Rattle.course.specs.declared.Step.TheVariants.{Lift}
use Rattle.course.specs.declared.Place.TheVariants.{At}
use Rattle.course.proofs.Within.{within}
use Rattle.solver.specs.Refusals.{lift_refused, no20}
use Rattle.solver.proofs.Ready.{at-step}
use Rattle.solver.proofs.checks.no20.Goals as goal

pub returns-in_default : goal.returns-in_default
unfolding no20 lift_refused
returns-in_default c = search rules

pub returns-in_default-2 : goal.returns-in_default-2
unfolding no20 lift_refused
returns-in_default-2 c = search rules

pub overflow_sub-x : goal.overflow_sub-x
overflow_sub-x c =
    let e = c.in-At-Lift.is ∙ ap At (rw c.in-At-Lift.is at c.in-At-Lift.field-0-is) in
    let column = within _ (Lift c.in-At-Lift.j) (at-step c.args.o _ _ e c.requires.p_value) in
    omega (arith, column)

pub bounds-solution-j : goal.bounds-solution-j
bounds-solution-j c =
    let e = c.in-At-Lift.is ∙ ap At (rw c.in-At-Lift.is at c.in-At-Lift.field-0-is) in
    let column = within _ (Lift c.in-At-Lift.j) (at-step c.args.o _ _ e c.requires.p_value) in
    omega (arith, column, c.requires.solution_len)

pub returns : goal.returns
unfolding no20 lift_refused
returns c = search rules
