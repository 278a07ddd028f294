-- `flag::shift` meets its contract: a turn of the loop is a turn of `each`.
-- Assumes nothing.
use Rattle.std.proofs.Common.{◌≡◌, ℕ, ◌/◌, ◌%◌, ◌^◌, length, ap, ◌∙◌, arith}
use lib.ListN.{set}
use Rattle.field.specs.Field.{field_of}
use Rattle.sharing.proofs.Loops.{run_none, run-next}
use Rattle.sharing.proofs.Each.{each-tab, tab-map}
use Rattle.flag.specs.Flag.{shifted}
use Rattle.flag.proofs.shift.Goals as goal

pub loop-i-init : goal.loop-i-init
loop-i-init g c = run_none _ _

pub loop-i-preserved : goal.loop-i-preserved
loop-i-preserved g c = let l = c.loop-i in run-next _ _ _ _ _ l.invariant (ap (λ (x : ℕ). set l.t l.i (x / 2 ^ c.args.h)) c.reduce.ensures)

pub returns : goal.returns
unfolding shifted
returns g c =
    let x = c.args in
    let e : c.loop-i.i ≡ length x.s.now = omega arith in
    (rw e at (each-tab _ _ x.t.now _ c.loop-i.invariant (omega arith)))
    ∙ tab-map (λ (y : ℕ). y % (field_of x.f).q / 2 ^ x.h) x.s.now
