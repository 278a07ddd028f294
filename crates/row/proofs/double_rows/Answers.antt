-- `row::double_rows` meets its contract. The loop's invariant: m is a run of the turns so far.
-- Assumes nothing.
use mathlib.Core.Path.{ap}
use Prim.Native.Nat.{ℕ, ◌+◌}
use lib.ListN.{set}
use Rattle.sharing.proofs.Loops.{run_none, run-next}
use Rattle.row.specs.Code.Streams.{double_turn, doubled_rows}
use borrow.Author.Rules.{rules}
use Rattle.row.proofs.double_rows.Goals as goal

pub loop-q-init : goal.loop-q-init
loop-q-init g c = run_none _ _

pub loop-q-preserved : goal.loop-q-preserved
unfolding double_turn
loop-q-preserved g c = run-next _ _ _ _ _ c.loop-q.invariant (ap (λ (x : ℕ). set c.loop-q.m (c.loop-q.q + c.args.r) x) c.doubled.ensures)

pub returns : goal.returns
unfolding doubled_rows
returns g c = search rules
