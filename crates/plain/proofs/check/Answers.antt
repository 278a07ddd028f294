-- `plain::check` meets its contract: each check in its order, and the first that refuses stands.
-- Assumes nothing.
use mathlib.Core.Path.{sym}
use native.Mathlib.Nat.{mul-le-mul}
use native.Mathlib.Omega.{arith}
use Prim.Native.Nat.{◌+◌, ◌*◌, ◌≤◌}
use Rattle.std.proofs.Common.{rules}
use Rattle.sharing.specs.Bounds.{most_rows, most_width, most_entries}
use Rattle.verdict.specs.Told.{◌or◌}
use Rattle.verdict.proofs.Passes.{three-says}
use Rattle.plain.specs.Calls.{plain_order}
use Rattle.plain.proofs.check.Goals as goal
use Rattle.plain.proofs.check.Goals.{In_ok-no3}

size_small : (c : In_ok-no3) → c.args.size ≤ most_rows
size_small c = (three-says _ (sym c.in_ok-no3.ensures)).1

entries-small : (c : In_ok-no3) → let m = c.args.size in m * (m + 1) ≤ most_entries
entries-small c = let m = c.args.size in mul-le-mul {n₁ = m} {m₁ = m + 1} {n₂ = most_rows} {m₂ = most_width} (size_small c) (omega (arith, size_small c))

pub returns-in_err-no1 : goal.returns-in_err-no1
unfolding plain_order ◌or◌
returns-in_err-no1 c = search rules

pub returns-in_err-no3 : goal.returns-in_err-no3
unfolding plain_order ◌or◌
returns-in_err-no3 c = search rules

pub overflow_add-rows : goal.overflow_add-rows
overflow_add-rows c = omega (arith, size_small c)

pub overflow_add-m : goal.overflow_add-m
overflow_add-m c = omega (arith, size_small c)

pub overflow_mul-m : goal.overflow_mul-m
overflow_mul-m c = omega (arith, entries-small c)

pub returns : goal.returns
unfolding plain_order ◌or◌
returns c = search rules
