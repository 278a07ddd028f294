-- `desk_line::number` meets its contract: io's digits are the decimal, 20 of them at most, and the byte stands behind them.
-- Assumes nothing.
use mathlib.Core.Path.{◌≡◌, ap, ◌∙◌}
use Prim.Native.Nat.{◌≤◌}
use native.Mathlib.Omega.{arith}
use lib.ListN.{length, take}
use Rattle.desk_line.specs.Text.{decimal}
use Rattle.desk_line.specs.Line.{Wrote}
use Rattle.desk_line.proofs.Decimal.{fewest_decimal, at_most_twenty}
use Rattle.desk_line.proofs.Written.{wrote_byte}
use Rattle.desk_line.proofs.number.Goals as goal

pub append-p-requires : goal.append-p-requires
append-p-requires c = omega (arith, at_most_twenty c.args.n _ c.ranges.n.fits c.decimal-k.ensures.len)

pub bounds-out-p : goal.bounds-out-p
bounds-out-p c =
    omega (arith, at_most_twenty c.args.n _ c.ranges.n.fits c.decimal-k.ensures.len, c.decimal-k.ensures.in_bounds.1, c.append-p.ensures.next, c.append-p.auto.out)

pub overflow_add-result : goal.overflow_add-result
overflow_add-result c =
    omega (arith, at_most_twenty c.args.n _ c.ranges.n.fits c.decimal-k.ensures.len, c.decimal-k.ensures.in_bounds.1, c.append-p.ensures.next)

pub returns : goal.returns
returns c =
    let a = c.args in
    let d = c.decimal-k in
    let w = c.append-p in
    let few : d.result ≤ 20 = at_most_twenty a.n _ c.ranges.n.fits d.ensures.len in
    let e : take d.result d.new.out ≡ decimal a.n = d.ensures.digits ∙ fewest_decimal _ _ d.ensures.len in
    let n : length (decimal a.n) ≤ 20 = omega (arith, few, d.ensures.in_bounds.1, ap length e) in
    let wrote : Wrote a.out.now a.at (decimal a.n) w.new.out w.result = rw e at w.ensures in
    record { wrote = wrote_byte a.end wrote (omega arith); upper_bound = omega (arith, wrote.next) }
