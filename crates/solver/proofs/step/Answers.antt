-- `solver::step` meets its contract: a pass gives the work of the place's step what it asks for, and a place that is no step is left as it is.
-- Assumes nothing.
use Rattle.std.proofs.Common.{rules}
use mathlib.Core.Path.{ap, ◌∙◌}
use Rattle.verdict.specs.Calls.{call, gives}
use Rattle.solver.specs.Calls.{step_call}
use Rattle.verdict.proofs.Verdicts.{passes}
use Rattle.verdict.proofs.Calls.{passes_call}
use Rattle.solver.proofs.Calls.{step_done_lem, step_stays}
use Rattle.solver.proofs.Ready.{going, step_ready, next_ready}
use Rattle.solver.proofs.step.Goals as goal

pub returns-in_err-step : goal.returns-in_err-step
unfolding step_call call
returns-in_err-step c = search rules

pub returns-in_default : goal.returns-in_default
unfolding step_call
returns-in_default c =
    step_stays _ _ _ _ _ c.in_default.not-At
    ∙ passes_call _ _ _ _ _ c.step.ensures c.in_ok-step.was

pub act-x-requires : goal.act-x-requires
act-x-requires c =
    let d = step_ready _ c.in-At.is (going _ _ _ _ _ (passes _ _ _ c.step.ensures c.in_ok-step.was)) in
    rw c.order.ensures record { sizes = d.0; s_value = d.1.0; table_len = d.1.1.0; s_in_bounds = d.1.1.1 }

pub next-requires : goal.next-requires
next-requires c =
    let d = next_ready _ _ _ _ _ (passes _ _ _ c.step.ensures c.in_ok-step.was) _ c.in-At.is in
    record { sizes = d.0; s_value = d.1.0; s_bound = d.1.1 }

pub returns : goal.returns
unfolding step_call
returns c =
    let acts = rw c.order.ensures at c.act-x.ensures in
    step_done_lem _ _ _ _ _ _ _ _ _ _ c.in-At.is acts.value acts.solution_after (ap gives c.answer.ensures) c.next.ensures
    ∙ passes_call _ _ _ _ _ c.step.ensures c.in_ok-step.was
