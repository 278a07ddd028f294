-- `pattern::WideProgress::next` meets its contract: 10 passes the record, so that its step has a place, and a slot for its pivot.
-- Assumes nothing.
use native.Mathlib.Omega.{arith}
use borrow.Author.Rules.{rules}
use Rattle.pattern.specs.Next.{moved_on}
use Rattle.pattern.proofs.Tallied.{placed_in, next_in}
use Rattle.pattern.proofs.WideProgress.next.Goals as goal

pub cost-d-requires-clause-bound : goal.cost-d-requires-clause-bound
cost-d-requires-clause-bound c =
    let w = placed_in c.args.self c.args.s c.requires.sizes (search rules) c.requires.self_value.0 c.requires.self_value.1 in (w.2, w.3)

pub found_by-pivots-requires : goal.found_by-pivots-requires
found_by-pivots-requires c =
    (next_in c.args.self c.args.s c.args.x c.requires.sizes (search rules) c.requires.self_value.0 c.requires.self_value.1).1

pub place_after-requires : goal.place_after-requires
place_after-requires c =
    let w = placed_in c.args.self c.args.s c.requires.sizes (search rules) c.requires.self_value.0 c.requires.self_value.1 in
    let n = next_in c.args.self c.args.s c.args.x c.requires.sizes (search rules) c.requires.self_value.0 c.requires.self_value.1 in
    record {
      rows_le_most_rows = rw c.found_by-pivots.ensures (c.requires.sizes.most, n.0, omega (arith, w.3, c.requires.sizes.widest));
      earlier = rw c.found_by-pivots.ensures n.2;
    }

pub returns : goal.returns
unfolding moved_on
returns c = rw (c.place_after.ensures, c.found_by-pivots.ensures, c.cost-d.ensures)
