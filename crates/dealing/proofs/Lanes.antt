-- Laws of lanes, of any word: one put together of bytes, one moved up or down by whole lanes, and one of which a mask keeps some.
-- Assumes nothing.
use mathlib.Core.Path.{◌≡◌, sym, ap, ◌∙◌}
use Prim.Native.Nat.{ℕ, zero, suc, ◌+◌, ◌-◌, ◌*◌, ◌/◌, ◌%◌, ◌^◌, ◌<◌}
use native.Mathlib.Omega.{arith}
use native.Mathlib.Decide.{dec_lt}
use native.Mathlib.Nat.{mod-eq_of_lt, not-suc-le-zero, le_of_suc-le-suc, mul_assoc, zero-div}
use lib.Bits.{bit_and, and_mask}
use lib.Dec.{ltb}
use lib.Pow.{pow-add, shl-shr, shr-shr, field, mod-mod-pow}
use borrow.Author.Tests.{lt-ltb, le-ltb}
use Rattle.field.specs.Field.{pick}
use Rattle.word.specs.Lanes.{lane, Lanes}
use Rattle.word.proofs.Lanes.{lane-lt}

-- ---- put together

-- the word of k bytes
unfoldable pub word : ℕ → (ℕ → ℕ) → ℕ
word zero g = 0
word (suc k) g = g 0 + 256 * word k (λ i. g (suc i))

lane_first : (b w : ℕ) → b < 256 → lane (b + 256 * w) 0 ≡ b
unfolding lane
lane_first b w h = omega arith

pub lane_byte : (b : ℕ) → b < 256 → lane b 0 ≡ b
unfolding lane
lane_byte b h = omega arith

pub lane-zero : (l : ℕ) → lane 0 l ≡ 0
unfolding lane
lane-zero l = ap (λ (x : ℕ). x % 256) (zero-div (2 ^ (8 * l)))

-- w moved down by a lane
pub lane_down : (w l : ℕ) → lane (w / 256) l ≡ lane w (suc l)
unfolding lane
lane_down w l =
    let e : 8 + 8 * l ≡ 8 * suc l = omega arith in
    ap (λ (x : ℕ). x % 256) (shr-shr w 8 (8 * l) ∙ ap (λ (k : ℕ). w / 2 ^ k) e)

lane-next : (b w l : ℕ) → b < 256 → lane (b + 256 * w) (suc l) ≡ lane w l
lane-next b w l h =
    let q : (b + 256 * w) / 256 ≡ w = omega arith in
    sym (lane_down (b + 256 * w) l) ∙ ap (λ (x : ℕ). lane x l) q

pub lane_word : (k : ℕ) (g : ℕ → ℕ) → ((l : ℕ) → g l < 256) → (l : ℕ) → l < k → lane (word k g) l ≡ g l
unfolding word
lane_word zero g b l h = absurd (not-suc-le-zero h)
lane_word (suc k) g b zero h = lane_first (g 0) (word k (λ i. g (suc i))) (b 0)
lane_word (suc k) g b (suc l) h =
    lane-next (g 0) (word k (λ i. g (suc i))) l (b 0) ∙ lane_word k (λ i. g (suc i)) (λ i. b (suc i)) l (le_of_suc-le-suc h)

-- a word from eight bytes
module _ (g : ℕ → ℕ) (h : (l : ℕ) → g l < 256) where
  pub eight_lanes : (a b c d e f i j : ℕ) → a ≡ g 0 → b ≡ g 1 → c ≡ g 2 → d ≡ g 3 → e ≡ g 4 → f ≡ g 5 → i ≡ g 6 → j ≡ g 7
      → Lanes (a + b * 256 + c * 65536 + d * 16777216 + e * 4294967296 + f * 1099511627776 + i * 281474976710656 + j * 72057594037927936) g
  unfolding word
  eight_lanes a b c d e f i j ha hb hc hd he hf hi hj =
      let w : a + b * 256 + c * 65536 + d * 16777216 + e * 4294967296 + f * 1099511627776 + i * 281474976710656 + j * 72057594037927936 ≡ word 8 g = omega arith in
      record { at = λ l k. ap (λ (x : ℕ). lane x l) w ∙ lane_word 8 g h l k }

-- a word that takes in a pair of bytes below what it holds
pair_is : (x y v : ℕ) → v * 65536 + (x + y * 256) ≡ x + 256 * (y + 256 * v)
pair_is x y v = omega arith

pub pair_lanes : (g : ℕ → ℕ) (x y v n k : ℕ) → x < 256 → y < 256 → k ≡ n + 2 → x ≡ g 0 → y ≡ g 1 → ((i : ℕ) → i < n → lane v i ≡ g (i + 2))
    → (i : ℕ) → i < k → lane (v * 65536 + (x + y * 256)) i ≡ g i
pair_lanes g x y v n k hx hy e a b h i l =
    rw (pair_is x y v) (go i l)
  where
    go : (i : ℕ) → i < k → lane (x + 256 * (y + 256 * v)) i ≡ g i
    go zero l = lane_first x (y + 256 * v) hx ∙ a
    go (suc zero) l = lane-next x (y + 256 * v) 0 hx ∙ lane_first y v hy ∙ b
    go (suc (suc i)) l =
        let f : i + 2 ≡ suc (suc i) = omega arith in
        lane-next x (y + 256 * v) (suc i) hx ∙ lane-next y v i hy ∙ h i (omega arith) ∙ ap g f

-- ---- moved

-- a word has no lane past the eighth
pub lane_none : (w : ℕ) → w < 2 ^ 64 → lane w 8 ≡ 0
unfolding lane
lane_none w h = omega arith

lane-mod : (x l : ℕ) → l < 8 → lane (x % 2 ^ 64) l ≡ lane x l
unfolding lane
lane-mod x l h =
    let a : 64 ≡ 64 - 8 * l + 8 * l = omega arith in
    let b : 64 - 8 * l ≡ 56 - 8 * l + 8 = omega arith in
    ap (λ (k : ℕ). x % 2 ^ k / 2 ^ (8 * l) % 256) a ∙ ap (λ (y : ℕ). y % 256) (field x (64 - 8 * l) (8 * l))
    ∙ ap (λ (k : ℕ). x / 2 ^ (8 * l) % 2 ^ k % 256) b ∙ mod-mod-pow (x / 2 ^ (8 * l)) (56 - 8 * l) 8

up_past : (w c m : ℕ) → lane (w * 2 ^ (8 * c)) (c + m) ≡ lane w m
unfolding lane
up_past w c m =
    let e : 8 * (c + m) ≡ 8 * c + 8 * m = omega arith in
    ap (λ (x : ℕ). x % 256)
    (ap (λ (k : ℕ). w * 2 ^ (8 * c) / 2 ^ k) e ∙ sym (shr-shr (w * 2 ^ (8 * c)) (8 * c) (8 * m)) ∙ ap (λ (x : ℕ). x / 2 ^ (8 * m)) (shl-shr w (8 * c)))

up_below : (w l m : ℕ) → lane (w * 2 ^ (8 * (l + suc m))) l ≡ 0
unfolding lane
up_below w l m =
    let e : 8 * (l + suc m) ≡ (8 * m + 8) + 8 * l = omega arith in
    let z : ℕ = w * 2 ^ (8 * m) in
    let t : w * 2 ^ (8 * (l + suc m)) ≡ z * 256 * 2 ^ (8 * l)
    = ap (λ (k : ℕ). w * 2 ^ k) e ∙ ap (λ (x : ℕ). w * x) (pow-add 2 (8 * m + 8) (8 * l) ∙ ap (λ (x : ℕ). x * 2 ^ (8 * l)) (pow-add 2 (8 * m) 8))
    ∙ sym (mul_assoc w (2 ^ (8 * m) * 256) (2 ^ (8 * l))) ∙ ap (λ (x : ℕ). x * 2 ^ (8 * l)) (sym (mul_assoc w (2 ^ (8 * m)) 256)) in
    ap (λ (x : ℕ). x / 2 ^ (8 * l) % 256) t ∙ ap (λ (x : ℕ). x % 256) (shl-shr (z * 256) (8 * l)) ∙ (omega arith)

-- w moved up by c lanes, in 64 bits
pub lane_up : (w c l : ℕ) → l < 8 → lane (w * 2 ^ (8 * c) % 2 ^ 64) l ≡ pick (ltb l c) 0 (lane w (l - c))
lane_up w c l h = lane-mod (w * 2 ^ (8 * c)) l h ∙ elim (dec_lt l c) [
  | yes g ↦
      let e : c ≡ l + suc (c - suc l) = omega arith in
      ap (λ (k : ℕ). lane (w * 2 ^ (8 * k)) l) e ∙ up_below w l (c - suc l) ∙ ap (λ b. pick b 0 (lane w (l - c))) (sym (lt-ltb l c g))
  | no g ↦
      let e : l ≡ c + (l - c) = omega arith in
      ap (λ (k : ℕ). lane (w * 2 ^ (8 * c)) k) e ∙ up_past w c (l - c) ∙ ap (λ b. pick b 0 (lane w (l - c))) (sym (le-ltb l c (omega arith)))
]

-- ---- kept

-- a lane under a mask's lane that is all ones
pub kept : (w l : ℕ) → bit_and (lane w l) 255 ≡ lane w l
kept w l = and_mask (lane w l) 8 ∙ mod-eq_of_lt (lane-lt w l)
