-- `solver::solve` meets its contract: a pass gives the work what it asks for, and what meets the equation has its meaning and its counters.
-- Assumes nothing.
use Rattle.std.proofs.Common.{rules}
use mathlib.Core.Path.{◌≡◌, ap, ◌∙◌}
use Rattle.walk.specs.Act.{held}
use Rattle.verdict.specs.Calls.{call, after, gives}
use Rattle.solver.specs.Calls.{order, solve_does, solve_call}
use Rattle.verdict.proofs.Verdicts.{passes}
use Rattle.verdict.proofs.Calls.{passes_call}
use Rattle.solver.proofs.Meaning.{means, takes}
use Rattle.solver.proofs.Ready.{solvable, solve_ready}
use Rattle.solver.proofs.solve.Goals as goal

pub returns-in_err-solve-clause-outcome : goal.returns-in_err-solve-clause-outcome
unfolding solve_call call
returns-in_err-solve-clause-outcome c = search rules

pub solve-requires-2 : goal.solve-requires-2
solve-requires-2 c =
    let d = solve_ready (solvable _ _ _ _ _ (passes _ _ _ c.solve.ensures c.in_ok-solve.was)) in
    record { sizes = d.0; table_len = d.1.0; o_in_bounds = d.1.1 }

pub returns : goal.returns
unfolding solve_call
returns c =
    let a = c.args in
    let o = order a.field a.shares a.size in
    let h = held c.solve-2.new.table c.solve-2.new.solution in
    let e : after (gives c.solve-2.result) h ≡ solve_call o (held a.table.now a.solution.now) a.mask.now a.nonzero.now =
    ap solve_does c.solve-2.ensures ∙ passes_call _ _ _ _ _ c.solve.ensures c.in_ok-solve.was in
    record {
      outcome = e;
      meaning = means o a.table.now a.solution.now a.mask.now a.nonzero.now _ h e;
      counters = takes o a.table.now a.solution.now a.mask.now a.nonzero.now _ h e;
    }
