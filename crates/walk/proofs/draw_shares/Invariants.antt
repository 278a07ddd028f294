-- `walk::draw_shares` meets its contract. The loop's invariant: the turns so far have stored a draw at each place passed.
-- Assumes nothing.
use mathlib.Core.Path.{◌≡◌}
use Rattle.field.specs.Field.{field_of}
use Rattle.sharing.specs.Run.{run}
use Rattle.sharing.specs.Rules.{draw_at}
use Rattle.sharing.proofs.Each.{each}
use Rattle.walk.proofs.draw_shares.Given as goal

abbrev pub invariant-loop-s : goal.invariant-loop-s
invariant-loop-s l = l.e ≡ run (each (λ k x. draw_at (field_of l.f) l.mask k)) l.s l.initial.e
