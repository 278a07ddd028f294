-- 01, "The step list": the draws of each step, in the paper's closed form. n is the number of shares, N that of their pairs, and L that of
-- the columns from j on; f·2N are the draws of a flag, where 01 has f(n-1+N) and R-6 overrules it, and (n-1)²+N those of an Inversion.
-- Assumes nothing.
use Rattle.std.specs.Prelude.{ℕ, ◌+◌, ◌-◌, ◌*◌}
use Rattle.sharing.specs.Run.{pairs}
use Rattle.sharing.specs.Rules.{inversion_draws}
use Rattle.flag.specs.Flag.{flag_draws}

-- f·2N+L·N
unfoldable pub mix_cost : ℕ → ℕ → ℕ → ℕ
mix_cost f n L = flag_draws f n + L * pairs n

-- f·2N+N
unfoldable pub check_cost : ℕ → ℕ → ℕ
check_cost f n = flag_draws f n + pairs n

-- (n-1)²+N+n(n-1)L
unfoldable pub scale_cost : ℕ → ℕ → ℕ
scale_cost n L = inversion_draws n + n * (n - 1) * L

-- n-1, from the nonzero tape
unfoldable pub scale_nonzero : ℕ → ℕ
scale_nonzero n = n - 1

-- L·N
unfoldable pub clear_cost : ℕ → ℕ → ℕ
clear_cost n L = L * pairs n

-- N
unfoldable pub open_cost : ℕ → ℕ
open_cost n = pairs n
