-- `flag::own_terms` meets its contract: a turn of the loop is a turn of `each`, in both slices.
-- Assumes nothing.
use Rattle.std.proofs.Common.{◌≡◌, ℕ, length, get_or, refl, ap, ◌∙◌, arith}
use lib.Bits.{bit_and}
use lib.ListN.{set}
use Rattle.sharing.proofs.Loops.{run_none, run-next}
use Rattle.sharing.proofs.Pairs.{tab_list}
use Rattle.sharing.proofs.Each.{each-tab, each-own, each_left}
use Rattle.flag.specs.Code.Passes.{own_terms}
use Rattle.flag.proofs.own_terms.Goals as goal

pub loop-i-init : goal.loop-i-init
loop-i-init g c = record { terms = run_none _ _; kept = run_none _ _ }

pub loop-i-preserved : goal.loop-i-preserved
loop-i-preserved g c =
    let l = c.loop-i in
    let x = c.args in
    record {
      terms = run-next _ _ _ _ _ l.invariant.terms refl;
      kept = run-next _ _ _ _ _ l.invariant.kept
          (ap (λ (x : ℕ). set l.old l.i x) (each_left (λ k v. bit_and v (get_or x.t.now k 0)) l.i x.s.now l.s l.invariant.terms));
    }

pub returns : goal.returns
unfolding own_terms
returns g c =
    let l = c.loop-i in
    let x = c.args in
    let e : l.i ≡ length x.s.now = omega arith in
    (each-own (λ k v. bit_and v (get_or x.t.now k 0)) l.i x.s.now l.s l.invariant.terms e, (rw e at (each-tab (λ k. get_or x.s.now k 0) l.i x.old.now l.old l.invariant.kept (omega arith))) ∙ tab_list x.s.now)
