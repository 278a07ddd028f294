-- A word that takes in a byte at a time: moved down by a lane, with the byte in the highest one.
-- Assumes nothing.
use mathlib.Core.Path.{◌≡◌, ap, ap₂, ◌∙◌}
use mathlib.Core.Bool.{Bool}
use Prim.Native.Nat.{ℕ, suc, ◌+◌, ◌-◌, ◌*◌, ◌/◌, ◌%◌, ◌^◌, ◌<◌}
use mathlib.Core.List.{List}
use native.Mathlib.Omega.{arith}
use native.Mathlib.Decide.{dec_lt}
use lib.Bits.{bit_xor, xor_zero_l, xor_zero_r}
use lib.Dec.{ltb, leb-suc-suc}
use lib.ListN.{get_or}
use borrow.Author.Tests.{lt-ltb, le-ltb}
use Rattle.field.specs.Field.{pick}
use Rattle.word.specs.Lanes.{lane, Lanes}
use Rattle.word.proofs.Lanes.{lane_xor}
use Rattle.dealing.specs.Code.Words.{column_byte}
use Rattle.dealing.proofs.Lanes.{lane_byte, lane-zero, lane_down, lane_none, lane_up}

module _ (n : ℕ) (d : List ℕ) (o : ℕ) where
  pub few_none : Lanes 0 (column_byte n d 0 8 o)
  unfolding column_byte
  few_none = record { at = λ l h. rw (lt-ltb l 8 h) (lane-zero l) }

  -- the lanes below move down
  down : (q l : ℕ) → q < 8 → l < 7 → column_byte n d 0 (8 - q) o (suc l) ≡ column_byte n d 0 (8 - (q + 1)) o l
  unfolding column_byte
  down q l h g =
      let k : ℕ = 8 - (q + 1) in
      let a : 8 - q ≡ suc k = omega arith in
      let b : suc l - suc k ≡ l - k = omega arith in
      ap (λ (x : ℕ). pick (ltb (suc l) x) 0 (get_or d (0 + o + (suc l - x) * n) 0)) a
      ∙ ap₂ (λ (t : Bool) (x : ℕ). pick t 0 (get_or d (0 + o + x * n) 0)) (leb-suc-suc (suc l) k) b

  pub few_more : (q p v b : ℕ) → q < 8 → v < 2 ^ 64 → b < 256 → b ≡ get_or d p 0 → p ≡ o + q * n → Lanes v (column_byte n d 0 (8 - q) o)
      → Lanes (bit_xor (v / 256) (b * 2 ^ 56 % 2 ^ 64)) (column_byte n d 0 (8 - (q + 1)) o)
  unfolding column_byte
  few_more q p v b hq hv hb he hp L = record {
    at = λ l h.
        lane_xor (v / 256) (b * 2 ^ 56 % 2 ^ 64) l
        ∙ ap₂ bit_xor (lane_down v l) (lane_up b 7 l h)
        ∙ elim (dec_lt l 7) [
          | yes g ↦
              rw (lt-ltb l 7 g) (xor_zero_r (lane v (suc l)) ∙ L.at (suc l) (omega arith) ∙ down q l hq g)
          | no g ↦
              let e : l ≡ 7 = omega arith in
              let z : 7 - (8 - (q + 1)) ≡ q = omega arith in
              let r : p ≡ 0 + o + q * n = omega arith in
              rw (e, lane_none v hv, le-ltb 7 (8 - (q + 1)) (omega arith), z) (xor_zero_l (lane b 0) ∙ lane_byte b hb ∙ he ∙ ap (λ (x : ℕ). get_or d x 0) r)
        ];
  }
