-- `words::read_slots` meets its contract. The loop's invariant: each place passed has its slot's byte.
-- Assumes nothing.
use native.Mathlib.Omega.{arith}
use mathlib.Core.Path.{◌≡◌, ap, ◌∙◌}
use lib.ListN.{length, set, length-set}
use Rattle.sharing.proofs.Loops.{run_none, run-next}
use Rattle.sharing.proofs.Each.{each-tab, tab-map}
use Rattle.host.specs.WideWords.{byte_of}
use borrow.Author.Rules.{rules}
use Rattle.host.proofs.words.read_slots.Goals as goal

pub loop-i-init : goal.loop-i-init
loop-i-init c = (search rules, search rules, run_none _ _)

pub loop-i-preserved : goal.loop-i-preserved
loop-i-preserved c = let l = c.loop-i in (
  search rules,
  simp length-set l.invariant.1,
  run-next _ _ _ _ _ l.invariant.2 (ap (set l.columns l.i) c.byte_of.ensures),
)

pub returns : goal.returns
returns c =
    let slots = c.args.slots.now in
    let e : c.loop-i.i ≡ length slots = omega arith in
    (rw e at (each-tab _ _ _ _ c.loop-i.invariant.2 (omega arith)))
    ∙ tab-map byte_of slots
