use mathlib.Core.Path.{◌≡◌, ap, ◌∙◌}
use Prim.Native.Nat.{ℕ, ◌*◌, ◌/◌, ◌%◌}
use native.Mathlib.Omega.{arith}
use lib.Bits.{bit_and, and_mask}
use lib.Pow.{shr-shr}
use Rattle.word.specs.Lanes.{ones}
use Rattle.choice.specs.Code.Writing.{IsMask}
use Rattle.choice.proofs.Writing.{holds_next}
use Rattle.choice.proofs.share_masks.Goals as goal

-- the lowest bit
low_bit : (h one : ℕ) → one ≡ 1 → bit_and h one ≡ h % 2
low_bit h one e = rw e (and_mask h 1)

pub loop-mask-preserved : goal.loop-mask-preserved
loop-mask-preserved c =
    let l = c.loop-mask in
    let x = c.args in
    let e : IsMask x.a l.mask-index (c.from.result * ones) =
    ap (λ (n : ℕ). n * ones) (c.from.ensures ∙ low_bit l.h x.one c.requires ∙ ap (λ (n : ℕ). n % 2) l.invariant.0) in (
      ap (λ (n : ℕ). n / 2) l.invariant.0 ∙ shr-shr x.a l.mask-index 1,
      holds_next (IsMask x.a) l.mask-index _ l.group (omega arith) l.invariant.1 e,
    )
