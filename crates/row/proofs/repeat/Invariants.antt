-- `row::repeat` meets its contract. The loops' invariants: m is a run of the turns so far.
-- Assumes nothing.
use mathlib.Core.Path.{◌≡◌}
use Prim.Native.Nat.{◌*◌}
use Rattle.sharing.specs.Run.{run}
use Rattle.row.specs.Code.Streams.{once_turn, repeat_turn}
use Rattle.row.proofs.repeat.Given as goal

abbrev pub invariant-loop-u : goal.invariant-loop-u
invariant-loop-u g l = l.m ≡ run (repeat_turn g.row.N l.a) l.u l.initial.m

abbrev pub invariant-loop-s : goal.invariant-loop-s
invariant-loop-s g l = l.m ≡ run (once_turn l.a (l.u * g.row.N)) l.s l.initial.m
