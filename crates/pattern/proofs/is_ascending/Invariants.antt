-- `pattern::is_ascending` meets its contract. The loop's invariant: the slots from p-index on ascend from the one before them just where all ascend.
-- Assumes nothing.
use mathlib.Core.Path.{◌≡◌}
use lib.ListN.{drop}
use Rattle.pattern.specs.Pivots.{ascends}
use Rattle.pattern.proofs.is_ascending.Given as goal

abbrev pub invariant-loop-p : goal.invariant-loop-p
invariant-loop-p l = ascends l.low l.high (drop l.p-index l.ps) ≡ ascends 0 l.high l.ps
