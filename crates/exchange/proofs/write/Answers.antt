-- `write` meets its contract: a pass gives the filling what it asks for.
-- Assumes nothing.
use mathlib.Core.Path.{refl, sym}
use native.Mathlib.Omega.{arith}
use Rattle.std.proofs.Common.{rules}
use Rattle.verdict.specs.Calls.{call}
use Rattle.exchange.specs.Calls.{write_call}
use Rattle.exchange.proofs.Admitted.{write_says_lem, fits}
use Rattle.exchange.proofs.write.Goals as goal

pub returns-in_err-write_check : goal.returns-in_err-write_check
unfolding write_call call
returns-in_err-write_check c = search rules

pub fill-requires-clause-s_bound : goal.fill-requires-clause-s_bound
fill-requires-clause-s_bound c =
    let x = c.args in
    let w = write_says_lem x.field x.shares x.size x.table.now _ (sym (c.in_ok-write_check.ensures)) in
    let k = fits x.field x.shares x.size x.table.now w.0 in
    (k.field, k.shares, k.size, k.table)

pub fill-requires-clause-target_len : goal.fill-requires-clause-target_len
fill-requires-clause-target_len c =
    let x = c.args in
    let w = write_says_lem x.field x.shares x.size x.table.now _ (sym (c.in_ok-write_check.ensures)) in
    let a = w.0 in
    (refl, omega (arith, w.1, a.whole))

pub returns : goal.returns
unfolding write_call call
returns c = search rules
