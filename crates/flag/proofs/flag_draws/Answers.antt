-- `flag::flag_draws` meets its contract: the folds, times the draws of each, are few.
-- Assumes nothing.
use Rattle.std.proofs.Common.{◌≡◌, ℕ, ◌*◌, ◌≤◌, arith}
use Rattle.flag.specs.Flag.{folds, fold_draws}
use Rattle.flag.proofs.Folding.{flag_few}
use Rattle.flag.proofs.flag_draws.Goals as goal

few : (f n a b : ℕ) → a ≡ folds f → b ≡ fold_draws n → n ≤ 4 → a * b ≤ 36
few f n a b p q h = rw (p, q) (flag_few f n h)

pub overflow_mul-result : goal.overflow_mul-result
overflow_mul-result c = omega (arith, few c.args.f c.args.n _ _ c.fold_count.ensures c.fold_draws.ensures.0 (omega arith))

pub returns : goal.returns
returns c =
    (rw (c.fold_count.ensures, c.fold_draws.ensures.0), few c.args.f c.args.n _ _ c.fold_count.ensures c.fold_draws.ensures.0 (omega arith))
