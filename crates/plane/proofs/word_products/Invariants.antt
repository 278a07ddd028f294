-- p is a run of the shares so far.
use mathlib.Core.Path.{◌≡◌}
use Rattle.sharing.specs.Run.{run}
use Rattle.plane.specs.Code.Products.{share_turn}
use Rattle.plane.proofs.word_products.Given as goal

abbrev pub invariant-loop-i : goal.invariant-loop-i
invariant-loop-i g l = l.p ≡ run (share_turn g.row.BITS l.masks l.other l.b l.q) l.i l.initial.p
