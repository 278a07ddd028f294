-- `wide::solve` meets its contract: a pass gives the work what it asks for, and what meets the equation has its meaning.
-- Assumes nothing.
use mathlib.Core.Path.{◌≡◌, sym}
use Rattle.std.proofs.Common.{rules}
use Rattle.walk.specs.Act.{held}
use Rattle.verdict.specs.Calls.{gives, after, call}
use Rattle.wide.specs.WideCalls.{order, solve_call}
use Rattle.wide.proofs.Ready.{solvable}
use Rattle.wide.proofs.Meaning.{means}
use Rattle.wide.proofs.solve.Goals as goal

pub returns-in_err-solve-clause-outcome : goal.returns-in_err-solve-clause-outcome
unfolding solve_call call
returns-in_err-solve-clause-outcome c = search rules

pub solve-requires-2 : goal.solve-requires-2
solve-requires-2 c =
    let d = solvable _ _ _ _ _ (sym c.in_ok-solve.ensures) in
    record { sizes = d.sizes; table_len = (d.lent.whole, d.lent.room); o_in_bounds = (d.tapes.masks, d.tapes.others) }

-- the equation and its meaning
pub returns : goal.returns
unfolding solve_call call
returns c =
    let a = c.args in
    let o = order a.field a.shares a.rows a.columns in
    let h = held c.solve-2.new.table c.solve-2.new.solution in
    let e : after (gives c.solve-2.result) h ≡ solve_call o (held a.table.now a.solution.now) a.mask.now a.nonzero.now = search rules in
    record { outcome = e; meaning = means o a.table.now a.solution.now a.mask.now a.nonzero.now _ h e }
