-- `field::unseen_zero` meets its contract: a square leaves 0 or 1 modulo 3.
-- Assumes nothing.
use mathlib.Core.Path.{◌≡◌}
use Prim.Native.Nat.{ℕ, ◌<◌, ◌*◌, ◌/◌, ◌%◌}
use native.Mathlib.Nat.{mod-lt}
use native.Mathlib.Omega.{arith}
use lib.Dec.{eqb, eqb→eq, lit<}
use Rattle.field.proofs.Linear.{all-at}
use Rattle.field.proofs.unseen_zero.Goals as goal

small : {g : ℕ} → g < 16 → g * g / 256 ≡ 0
small {g} h = eqb→eq _ _ (all-at 16 (λ (k : ℕ). eqb (k * k / 256) 0) tt g h)

leaves : {g : ℕ} → g < 16 → g * g % 3 / 2 ≡ 0
leaves {g} h = eqb→eq _ _ (all-at 16 (λ (k : ℕ). eqb (k * k % 3 / 2) 0) tt g h)

pub overflow_mul-result : goal.overflow_mul-result
overflow_mul-result c = record { fits = omega (arith, small (mod-lt c.args.a (lit< tt))) }

pub returns : goal.returns
returns c = leaves (mod-lt c.args.a (lit< tt))
