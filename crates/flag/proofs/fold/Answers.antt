-- `flag::fold` meets its contract: And's draws begin behind those that refresh t, and each arm names the number that n is.
-- Assumes nothing.
use Rattle.std.proofs.Common.{◌≡◌, ℕ, List, ◌+◌, ◌-◌, ◌≤◌, length, take, drop, refl, arith, length-drop}
use Rattle.sharing.specs.Run.{pairs}
use Rattle.sharing.proofs.Loops.{rest}
use Rattle.flag.specs.Flag.{fold_draws, fold}
use Rattle.flag.proofs.fold.Goals as goal

-- the draws of one fold are twice as many as the pairs
twice : (n m : ℕ) → n ≡ m → (ds : List ℕ) → fold_draws n ≤ length ds → pairs m + pairs m ≤ length ds
unfolding fold_draws
twice n m e ds h = rw e at (let k : pairs n + pairs n ≤ length ds = omega arith in k)

-- enough for the refresh, and behind them for And
front : (m first : ℕ) (ds : List ℕ) → first ≡ pairs m → pairs m + pairs m ≤ length ds → pairs m ≤ length ds
front m first ds e h = omega arith

behind : (m first : ℕ) (ds : List ℕ) → first ≡ pairs m → pairs m + pairs m ≤ length ds → pairs m ≤ length (take (length ds - first) (drop first ds))
behind m first ds e h = rw (rest, length-drop) (omega arith)

pub slice_bounds-z-count : goal.slice_bounds-z-count
unfolding fold_draws
slice_bounds-z-count c = omega arith

pub slice_bounds-z-start : goal.slice_bounds-z-start
unfolding fold_draws
slice_bounds-z-start c = omega arith

pub passes-requires : goal.passes-requires
passes-requires c =
    let e = c.in-2.is in
    let q = rw e at c.requires in
    let first = c.pair_count-first.result in
    let ds = c.args.ds.now in
    let k = rw e at c.pair_count-first.ensures in
    let d = twice (length c.args.s.now) 2 e ds c.requires.h_bound.3 in
    record {
      binary = q.binary;
      h_bound = (q.h_bound.0, q.h_bound.1, q.h_bound.2, e, refl, front 2 first ds k d);
      s_in_bounds = (behind 2 first ds k d, q.s_in_bounds.0, q.s_in_bounds.1);
    }

pub passes-requires-in-3 : goal.passes-requires-in-3
passes-requires-in-3 c =
    let e = c.in-3.is in
    let q = rw e at c.requires in
    let first = c.pair_count-first.result in
    let ds = c.args.ds.now in
    let k = rw e at c.pair_count-first.ensures in
    let d = twice (length c.args.s.now) 3 e ds c.requires.h_bound.3 in
    record {
      binary = q.binary;
      h_bound = (q.h_bound.0, q.h_bound.1, q.h_bound.2, e, refl, front 3 first ds k d);
      s_in_bounds = (behind 3 first ds k d, q.s_in_bounds.0, q.s_in_bounds.1);
    }

pub passes-requires-in_default : goal.passes-requires-in_default
passes-requires-in_default c =
    let e : length c.args.s.now ≡ 4 = omega arith in
    let q = rw e at c.requires in
    let first = c.pair_count-first.result in
    let ds = c.args.ds.now in
    let k = rw e at c.pair_count-first.ensures in
    let d = twice (length c.args.s.now) 4 e ds c.requires.h_bound.3 in
    record {
      binary = q.binary;
      h_bound = (q.h_bound.0, q.h_bound.1, q.h_bound.2, e, refl, front 4 first ds k d);
      s_in_bounds = (behind 4 first ds k d, q.s_in_bounds.0, q.s_in_bounds.1);
    }

pub returns-in-2 : goal.returns-in-2
unfolding fold
returns-in-2 c = rw (rest, c.pair_count-first.ensures) at c.passes.ensures

pub returns-in-3 : goal.returns-in-3
unfolding fold
returns-in-3 c = rw (rest, c.pair_count-first.ensures) at c.passes-in-3.ensures

pub returns-in_default : goal.returns-in_default
unfolding fold
returns-in_default c = rw (rest, c.pair_count-first.ensures) at c.passes-in_default.ensures
