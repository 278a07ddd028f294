-- `walk::gather` meets its contract. The loop's invariant: the turns so far have stored the sum of each entry passed.
-- Assumes nothing.
use mathlib.Core.Path.{◌≡◌}
use Prim.Native.Nat.{◌*◌}
use Rattle.field.specs.Field.{field_of}
use Rattle.sharing.specs.Run.{run}
use Rattle.sharing.specs.Rules.{sum}
use Rattle.sharing.proofs.Each.{each}
use Rattle.table.specs.Layout.{part}
use Rattle.walk.proofs.gather.Given as goal

abbrev pub invariant-loop-i : goal.invariant-loop-i
invariant-loop-i l = l.values ≡ run (each (λ e x. sum (field_of l.f) (part l.n (e * l.n) l.table))) l.i l.initial.values
