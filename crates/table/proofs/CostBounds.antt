-- How many draws a step takes at most: there are four shares or fewer, and most_columns columns or fewer.
-- Assumes nothing.
use Prim.Native.Nat.{ℕ, ◌-◌, ◌*◌, ◌≤◌}
use native.Mathlib.Omega.{arith}
use native.Mathlib.Nat.{mul-le-mul}
use Rattle.sharing.specs.Run.{pairs}
use Rattle.sharing.proofs.Pairs.{pairs_count}
use Rattle.sharing.proofs.Draws.{inversion_few}
use Rattle.sharing.specs.Bounds.{most_columns, most_draws}
use Rattle.flag.proofs.Folding.{flag_few}
use Rattle.table.specs.Costs.{mix_cost, check_cost, scale_cost, clear_cost, open_cost}

-- the products of the number of shares
pub record Few (n : ℕ) : Type 0 where
  pub product : n * (n - 1) ≤ 12
  pub pairs_few : pairs n ≤ 6

pub few : (n : ℕ) → n ≤ 4 → Few n
few n h =
    let p : n * (n - 1) ≤ 12 = mul-le-mul {n₁ = n} {m₁ = n - 1} {n₂ = 4} {m₂ = 3} h (omega arith) in
    record {
      product = p;
      pairs_few = omega (arith, pairs_count n);
    }

pub clear_few : (n l : ℕ) → n ≤ 4 → l ≤ most_columns → clear_cost n l ≤ most_columns * 6
unfolding clear_cost
clear_few n l h k = mul-le-mul {n₁ = l} {m₁ = pairs n} {n₂ = most_columns} {m₂ = 6} k (few n h).pairs_few

pub mix_few : (f n l : ℕ) → n ≤ 4 → l ≤ most_columns → mix_cost f n l ≤ most_draws
unfolding mix_cost clear_cost
mix_few f n l h k = omega (arith, flag_few f n h, clear_few n l h k)

pub check_few : (f n : ℕ) → n ≤ 4 → check_cost f n ≤ most_draws
unfolding check_cost
check_few f n h = omega (arith, flag_few f n h, (few n h).pairs_few)

pub scale_few : (n l : ℕ) → n ≤ 4 → l ≤ most_columns → scale_cost n l ≤ most_draws
unfolding scale_cost
scale_few n l h k =
    omega (arith, inversion_few n h, mul-le-mul {n₁ = n * (n - 1)} {m₁ = l} {n₂ = 12} {m₂ = most_columns} (few n h).product k)

pub open_few : (n : ℕ) → n ≤ 4 → open_cost n ≤ most_draws
unfolding open_cost
open_few n h = omega (arith, (few n h).pairs_few)
