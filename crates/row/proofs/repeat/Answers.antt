-- `row::repeat` meets its contract. The loops' invariants: m is a run of the turns so far.
-- Assumes nothing.
use mathlib.Core.Path.{refl}
use native.Mathlib.Omega.{arith}
use Rattle.sharing.proofs.Loops.{run_none, run-next, run_done}
use Rattle.row.specs.Code.Streams.{repeat_turn, repeated}
use borrow.Author.Rules.{rules}
use Rattle.row.proofs.repeat.Goals as goal

pub loop-u-init : goal.loop-u-init
loop-u-init g c = run_none _ _

pub loop-s-init : goal.loop-s-init
loop-s-init g c = run_none _ _

pub loop-s-preserved : goal.loop-s-preserved
loop-s-preserved g c = run-next _ _ _ _ _ c.loop-s.invariant refl

pub loop-u-preserved : goal.loop-u-preserved
unfolding repeat_turn
loop-u-preserved g c = run-next _ _ _ _ _ c.loop-u.invariant (run_done _ _ _ _ _ c.loop-s.invariant (omega arith))

pub returns : goal.returns
unfolding repeated
returns g c = search rules
