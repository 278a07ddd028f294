-- p is a run of the words so far.
use mathlib.Core.Path.{◌≡◌}
use Rattle.sharing.specs.Run.{run}
use Rattle.plane.specs.Code.Products.{word_turn}
use Rattle.plane.proofs.products.Given as goal

abbrev pub invariant-loop-g : goal.invariant-loop-g
invariant-loop-g g l = l.p ≡ run (word_turn g.row.BITS g.row.N l.masks l.other) l.g l.initial.p
