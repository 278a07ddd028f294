-- Where the words of an entry stand in a row.
-- Assumes nothing.
use Prim.Native.Nat.{ℕ, suc, ◌+◌, ◌*◌, ◌/◌, ◌<◌, ◌≤◌}
use native.Mathlib.Omega.{arith}
use native.Mathlib.Nat.{mul-le-mul, suc-mul, mul-le-mul_right}
use Rattle.sharing.specs.Bounds.{most_columns}
use Rattle.word.specs.Rows.{words_of}

-- the first word of an entry, within the widest row
pub group_small : (n e : ℕ) → n ≤ 4 → e < most_columns → e / 8 * n ≤ 72
group_small n e h g = mul-le-mul {n₁ = e / 8} {m₁ = n} {n₂ = 18} {m₂ = 4} (omega arith) h

-- the words of one of so many columns are there
pub group_room : (n columns e l : ℕ) → e < columns → words_of columns * n ≤ l → e / 8 * n + n ≤ l
group_room n columns e l h g =
    omega (arith, suc-mul (e / 8) n, mul-le-mul_right {m = suc (e / 8)} {n = words_of columns} n (omega arith))
