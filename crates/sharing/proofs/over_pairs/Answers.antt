-- `sharing::over_pairs` meets its contract: the pair's number is what the loops count, and each loop is a run of its turns.
-- Assumes nothing.
use Rattle.std.proofs.Common.{◌≡◌, ℕ, ◌+◌, ◌-◌, refl, sym, ◌∙◌, subst, arith}
use native.Mathlib.Numerals.{add-one}
use Rattle.sharing.specs.Run.{over_pairs}
use Rattle.sharing.proofs.Loops.{run_none, run-next, run_done}
use Rattle.sharing.proofs.Pairs.{pair_number, pair-next, pairs_small}
use Rattle.sharing.proofs.over_pairs.Goals as goal

pub loop-i-init : goal.loop-i-init
loop-i-init g c = record { number = refl; out = run_none _ _ }

pub loop-j-init : goal.loop-j-init
loop-j-init g c =
    let e : c.loop-i.i + 1 - (c.loop-i.i + 1) ≡ 0 = omega arith in
    record { number = omega (arith, c.loop-i.invariant.number); out = rw e (run_none _ _) }

pub turn-requires : goal.turn-requires
turn-requires g c =
    let j = c.loop-j in
    subst (λ (len : ℕ). g.R.PairRule.Reaches c.args.rule.now j.k c.loop-i.i j.j len) (sym (j.auto.out ∙ c.loop-i.auto.out))
    (c.requires.reaches j.k c.loop-i.i j.j (pair_number c.args.n c.loop-i.i j.j j.k j.invariant.number (omega arith) c.loop-j-test.true) (omega arith) c.loop-j-test.true)

pub overflow_add-k : goal.overflow_add-k
overflow_add-k g c =
    let j = c.loop-j in
    let l = pair_number c.args.n c.loop-i.i j.j j.k j.invariant.number (omega arith) c.loop-j-test.true in
    omega (arith, l, pairs_small c.args.n c.requires.few)

pub loop-j-preserved : goal.loop-j-preserved
loop-j-preserved g c =
    let j = c.loop-j in
    record {
      number = omega (arith, j.invariant.number);
      out = pair-next (g.R.PairRule.turn c.args.rule.now) c.args.n c.loop-i.i j.j j.k c.loop-i.out j.out c.turn.new.out (omega arith) j.invariant.number j.invariant.out c.turn.ensures;
    }

pub loop-i-preserved : goal.loop-i-preserved
loop-i-preserved g c =
    let j = c.loop-j in
    let e : j.j ≡ c.args.n = omega arith in
    record {
      number = rw add-one (omega (arith, j.invariant.number, e));
      out = run-next _ _ _ _ _ c.loop-i.invariant.out (run_done _ _ _ _ _ j.invariant.out (rw (e, add-one) refl));
    }

pub returns : goal.returns
unfolding over_pairs
returns g c = run_done _ _ _ _ _ c.loop-i.invariant.out (omega arith)
