-- `sharing::over_pairs` meets its contract. The loops' invariants: what is written is a run over the pairs of the first i places, and of i's so far.
-- Assumes nothing.
use Rattle.std.proofs.Common.{◌≡◌, ◌+◌, ◌-◌}
use Rattle.sharing.specs.Run.{run, before, pair_turn, pairs_of}
use Rattle.sharing.proofs.over_pairs.Given as goal

abbrev pub invariant-loop-i : goal.invariant-loop-i
invariant-loop-i g l = record {
  number : l.k ≡ before l.n l.i;
  out : l.out ≡ run (pairs_of (g.R.PairRule.turn l.rule) l.n) l.i l.initial.out;
}

abbrev pub invariant-loop-j : goal.invariant-loop-j
invariant-loop-j g l = record {
  number : l.k + (l.i + 1) ≡ before l.n l.i + l.j;
  out : l.out ≡ run (pair_turn (g.R.PairRule.turn l.rule) l.n l.i) (l.j - (l.i + 1)) l.initial.out;
}
