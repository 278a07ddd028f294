-- `pattern::is_counted` meets its contract: the second counter is looked at where the first matches.
-- Assumes nothing.
use mathlib.Core.Path.{◌≡◌}
use Prim.Native.Nat.{◌+◌, ◌-◌, ◌*◌}
use borrow.Author.Tests.{eq-eqb, ne_eqb}
use Rattle.pattern.specs.Pivots.{listed}
use Rattle.pattern.specs.PatternList.{taken_at}
use Rattle.pattern.specs.Next.{counted}
use Rattle.pattern.proofs.Moving.{placed-says}
use Rattle.pattern.proofs.Taken.{taken-mask, taken-nonzero}
use Rattle.pattern.proofs.Tallied.{few_found}
use Rattle.pattern.proofs.is_counted.Goals as goal

pub columns_cost-requires-clause-n_le_columns : goal.columns_cost-requires-clause-n_le_columns
columns_cost-requires-clause-n_le_columns c =
    (c.taken-taken.ensures.columns.1, (few_found c.args.p c.requires.sizes c.requires.p_value).1, (placed-says c.args.p c.requires.p_value).0.rise)

pub returns-then-p-mask : goal.returns-then-p-mask
unfolding counted
returns-then-p-mask c =
    let p = c.args.p in
    let w = placed-says p c.requires.p_value in
    let a : (taken_at p.order (listed p.pivots) p.place).mask ≡ c.columns_cost.result + c.taken-taken.result.beyond =
    rw (c.columns_cost.ensures.0, c.taken-taken.ensures.beyond.0, c.taken-taken.ensures.columns.0) (taken-mask p.order (listed p.pivots) p.place w.1) in
    let b : (taken_at p.order (listed p.pivots) p.place).nonzero ≡ c.taken-taken.result.scales * (p.order.shares - 1) =
    rw c.taken-taken.ensures.scales.0 (taken-nonzero p.order (listed p.pivots) w.0.rise p.place w.1) in
    rw (a, b, eq-eqb _ _ c.if-p-mask.true)

pub returns-else-p-mask : goal.returns-else-p-mask
unfolding counted
returns-else-p-mask c =
    let p = c.args.p in
    let w = placed-says p c.requires.p_value in
    let a : (taken_at p.order (listed p.pivots) p.place).mask ≡ c.columns_cost.result + c.taken-taken.result.beyond =
    rw (c.columns_cost.ensures.0, c.taken-taken.ensures.beyond.0, c.taken-taken.ensures.columns.0) (taken-mask p.order (listed p.pivots) p.place w.1) in
    rw (a, ne_eqb _ _ c.if-p-mask.false)
