-- Lanes that are looked at and lanes that are not.
-- Assumes nothing.
use mathlib.Core.Path.{◌≡◌, refl, ap, ◌∙◌}
use mathlib.Core.Bool.{Bool}
use Prim.Native.Nat.{ℕ, zero, suc, ◌*◌, ◌%◌, ◌^◌, ◌<◌}
use native.Mathlib.Omega.{arith}
use native.Mathlib.Nat.{mod-eq_of_lt}
use borrow.Author.Tests.{le-ltb}
use lib.Bits.{bit_and, and_mask}
use lib.Dec.{T, ltb, eqb, eqb→eq, lit<}
use Rattle.field.specs.Field.{pick}
use Rattle.field.proofs.Linear.{all₂, all₂-at}
use Rattle.row.specs.Code.Streams.{doubled}
use Rattle.word.specs.Lanes.{lane, ones, multiple}
use Rattle.choice.proofs.Doubling.{doubled-zero}

-- all ones, shifted by d lanes
shifted? : ℕ → ℕ → Bool
shifted? d l = eqb (lane (ones * 2 ^ (8 * d) % 2 ^ 64) l) (pick (ltb l d) 0 255)

test : T (all₂ 8 shifted?)
unfolding shifted? lane
test = tt

pub live : (d : ℕ) → d < 8 → (l : ℕ) → l < 8 → lane (ones * 2 ^ (8 * d) % 2 ^ 64) l ≡ pick (ltb l d) 0 255
unfolding shifted?
live d hd l hl =
    eqb→eq (lane (ones * 2 ^ (8 * d) % 2 ^ 64) l) (pick (ltb l d) 0 255) (all₂-at 8 shifted? test d hd l hl)

-- with all ones nothing changes
pub and-ones : (a : ℕ) → a < 256 → bit_and a 255 ≡ a
and-ones a h = and_mask a 8 ∙ mod-eq_of_lt h

pub lane_ones : (l : ℕ) → l < 8 → lane ones l ≡ 255
lane_ones l h = live 0 (lit< tt) l h ∙ ap (λ (b : Bool). pick b 0 255) (le-ltb l 0 (omega arith))

-- multiples of 0 are 0
pub multiple-zero : (bits t : ℕ) → multiple bits t 0 ≡ 0
unfolding multiple
multiple-zero bits zero = refl
multiple-zero bits (suc t) = ap (doubled bits) (multiple-zero bits t) ∙ doubled-zero bits
