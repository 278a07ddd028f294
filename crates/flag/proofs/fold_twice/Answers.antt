-- `flag::fold_twice` meets its contract: the second fold's draws begin where the first one's end.
-- Assumes nothing.
use native.Mathlib.Omega.{arith}
use lib.ListN.{length-drop}
use Rattle.sharing.proofs.Loops.{rest}
use Rattle.flag.proofs.fold_twice.Goals as goal

pub fold-requires : goal.fold-requires
fold-requires c =
    let p = c.requires in
    let q = p.in_bounds in
    (record {
      binary = p.binary;
      h_bound = (omega arith, q.0, q.1, omega (arith, q.2));
      s_in_bounds = p.s_in_bounds;
    })

pub slice_bounds-fold-count : goal.slice_bounds-fold-count
slice_bounds-fold-count c = omega (arith, c.requires.in_bounds.2)

pub slice_bounds-fold-start : goal.slice_bounds-fold-start
slice_bounds-fold-start c = omega (arith, c.requires.in_bounds.2)

pub fold-requires-2 : goal.fold-requires-2
fold-requires-2 c =
    let p = c.requires in
    let q = p.in_bounds in
    let k = c.fold.auto in
    rw (k.s, k.x, k.y, rest, length-drop) (record {
      binary = p.binary;
      h_bound = (omega arith, q.0, q.1, omega (arith, q.2));
      s_in_bounds = p.s_in_bounds;
    })

pub returns : goal.returns
returns c = rw (rest, c.fold_draws-turn.ensures.0, c.fold.ensures) at c.fold-2.ensures
