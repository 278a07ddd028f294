-- `flag::fold_all` meets its contract: it does the folds of each field one by one, and each one's draws begin where those of the one before
-- end. Assumes nothing.
use native.Mathlib.Omega.{arith}
use mathlib.Core.Path.{◌∙◌}
use lib.ListN.{length, length-drop}
use borrow.Author.Tests.{eq-eqb, ne_eqb}
use Rattle.sharing.proofs.Loops.{rest}
use Rattle.sharing.proofs.Pairs.{pairs_small}
use Rattle.flag.proofs.Folding.{folds-two, folds-three, fold-two, fold-three}
use Rattle.flag.proofs.fold_all.Goals as goal

pub fold_twice-requires : goal.fold_twice-requires
fold_twice-requires c =
    let p = c.requires in
    let m = pairs_small (length c.args.s.now) p.in_bounds.1 in
    record {
      binary = p.binary;
      in_bounds = (p.in_bounds.0, p.in_bounds.1, rw (folds-two c.args.f (eq-eqb c.args.f 16 c.if-f-eq16.true)) at c.requires.in_bounds.2);
      s_in_bounds = (m, m);
    }

pub fold-requires : goal.fold-requires
fold-requires c =
    let p = c.requires in
    let m = pairs_small (length c.args.s.now) p.in_bounds.1 in
    record {
      binary = p.binary;
      h_bound = (omega arith, p.in_bounds.0, p.in_bounds.1, omega (arith, rw (folds-three c.args.f (ne_eqb c.args.f 16 c.if-f-eq16.false)) at c.requires.in_bounds.2));
      s_in_bounds = (m, m);
    }

pub slice_bounds-fold_twice-count : goal.slice_bounds-fold_twice-count
slice_bounds-fold_twice-count c = omega (arith, rw (folds-three c.args.f (ne_eqb c.args.f 16 c.if-f-eq16.false)) at c.requires.in_bounds.2)

pub slice_bounds-fold_twice-start : goal.slice_bounds-fold_twice-start
slice_bounds-fold_twice-start c = omega (arith, rw (folds-three c.args.f (ne_eqb c.args.f 16 c.if-f-eq16.false)) at c.requires.in_bounds.2)

pub fold_twice-requires-else-f-eq16 : goal.fold_twice-requires-else-f-eq16
fold_twice-requires-else-f-eq16 c =
    let p = c.requires in
    let m = pairs_small (length c.args.s.now) p.in_bounds.1 in
    let k = c.fold.auto in
    rw (k.s, k.x, k.y, rest, length-drop) (record {
      binary = p.binary;
      in_bounds = (p.in_bounds.0, p.in_bounds.1, omega (arith, rw (folds-three c.args.f (ne_eqb c.args.f 16 c.if-f-eq16.false)) at c.requires.in_bounds.2));
      s_in_bounds = (m, m);
    })

pub returns-then-f-eq16 : goal.returns-then-f-eq16
returns-then-f-eq16 c =
    let x = c.args in
    c.fold_twice.ensures ∙ fold-two x.f (length x.s.now) x.ds.now x.s.now (eq-eqb x.f 16 c.if-f-eq16.true)

pub returns-else-f-eq16 : goal.returns-else-f-eq16
returns-else-f-eq16 c =
    let x = c.args in
    (rw (c.fold.auto.s, rest, c.fold_draws-turn.ensures.0, c.fold.ensures) at c.fold_twice-else-f-eq16.ensures)
    ∙ fold-three x.f (length x.s.now) x.ds.now x.s.now (ne_eqb x.f 16 c.if-f-eq16.false)
