-- Laws of lanes: sums and choices go lane by lane.
-- Assumes nothing.
use mathlib.Core.Path.{◌≡◌, sym, ap, ◌∙◌}
use Prim.Native.Nat.{ℕ, suc, ◌+◌, ◌-◌, ◌*◌, ◌/◌, ◌%◌, ◌^◌, ◌<◌}
use native.Mathlib.Omega.{arith}
use native.Mathlib.Decide.{dec_lt}
use native.Mathlib.Nat.{mod-lt, mod-eq_of_lt, mul_assoc, mul-mod_left, div-eq_of_lt, zero-div}
use lib.Bits.{bit_xor, bit_and, xor_shr, xor_mod, and_shr, and_mod, xor_lt, xor_self, xor_zero_r}
use lib.Pow.{shl_exact, shl-shr, shr-shr, pow-add}
use lib.Dec.{lit<}
use Rattle.field.proofs.Xor.{xor_assoc}
use Rattle.word.specs.Lanes.{lane}

pub lane-lt : (w l : ℕ) → lane w l < 256
unfolding lane
lane-lt w l = mod-lt (w / 2 ^ (8 * l)) (lit< tt)

pub lane_xor : (a b l : ℕ) → lane (bit_xor a b) l ≡ bit_xor (lane a l) (lane b l)
unfolding lane
lane_xor a b l = ap (λ (x : ℕ). x % 256) (xor_shr a b (8 * l)) ∙ xor_mod (a / 2 ^ (8 * l)) (b / 2 ^ (8 * l)) 8

pub lane_and : (a b l : ℕ) → lane (bit_and a b) l ≡ bit_and (lane a l) (lane b l)
unfolding lane
lane_and a b l = ap (λ (x : ℕ). x % 256) (and_shr a b (8 * l)) ∙ and_mod (a / 2 ^ (8 * l)) (b / 2 ^ (8 * l)) 8

-- ---- a byte in one lane

-- a byte shifted to its lane stays within the word
pub lane_fits : (v l : ℕ) → v < 256 → l < 8 → v * 2 ^ (8 * l) % 2 ^ 64 ≡ v * 2 ^ (8 * l)
lane_fits v l h g = shl_exact 8 (8 * l) 64 h (omega arith)

pub lane-own : (v l : ℕ) → v < 256 → lane (v * 2 ^ (8 * l)) l ≡ v
unfolding lane
lane-own v l h = ap (λ (x : ℕ). x % 256) (shl-shr v (8 * l)) ∙ mod-eq_of_lt h

-- it is 0 in the lanes below
lane_below : (v l d : ℕ) → d < l → lane (v * 2 ^ (8 * l)) d ≡ 0
unfolding lane
lane_below v l d h =
    let k : ℕ = 8 * (l - suc d) in
    let e : 8 * l ≡ k + 8 + 8 * d = omega arith in
    rw (e, pow-add 2 (k + 8) (8 * d), ← mul_assoc v (2 ^ (k + 8)) (2 ^ (8 * d)), shl-shr (v * 2 ^ (k + 8)) (8 * d), pow-add 2 k 8, ← mul_assoc v (2 ^ k) 256)
    (mul-mod_left (v * 2 ^ k) 256)

-- and above
lane_above : (v l d : ℕ) → v < 256 → l < d → lane (v * 2 ^ (8 * l)) d ≡ 0
unfolding lane
lane_above v l d g h =
    let k : ℕ = 8 * (d - suc l) in
    let e : 8 * d ≡ 8 * l + (8 + k) = omega arith in
    rw (e, ← shr-shr (v * 2 ^ (8 * l)) (8 * l) (8 + k), shl-shr v (8 * l), ← shr-shr v 8 k, div-eq_of_lt g, zero-div (2 ^ k))

pub lane_other : (v l d : ℕ) → v < 256 → (d ≡ l → ⊥) → lane (v * 2 ^ (8 * l)) d ≡ 0
lane_other v l d g h =
    elim (dec_lt d l) [
      | yes z ↦ lane_below v l d z
      | no z ↦ lane_above v l d g (omega arith)
    ]

-- ---- one lane changed

-- the word x whose lane l became v: what the code stores
abbrev pub changed : ℕ → ℕ → ℕ → ℕ
changed x l v = bit_xor x (bit_xor (lane x l) v * 2 ^ (8 * l) % 2 ^ 64)

change_lt : (x l v : ℕ) → v < 256 → bit_xor (lane x l) v < 256
change_lt x l v h = xor_lt 8 (lane x l) v (lane-lt x l) h

pub changed-at : (x l v : ℕ) → l < 8 → v < 256 → lane (changed x l v) l ≡ v
changed-at x l v g h =
    let u : ℕ = bit_xor (lane x l) v in
    ap (λ (y : ℕ). lane (bit_xor x y) l) (lane_fits u l (change_lt x l v h) g)
    ∙ lane_xor x (u * 2 ^ (8 * l)) l
    ∙ ap (bit_xor (lane x l)) (lane-own u l (change_lt x l v h))
    ∙ sym (xor_assoc (lane x l) (lane x l) v)
    ∙ ap (λ (y : ℕ). bit_xor y v) (xor_self (lane x l))

pub changed_beside : (x l v d : ℕ) → l < 8 → v < 256 → (d ≡ l → ⊥) → lane (changed x l v) d ≡ lane x d
changed_beside x l v d g h k =
    let u : ℕ = bit_xor (lane x l) v in
    ap (λ (y : ℕ). lane (bit_xor x y) d) (lane_fits u l (change_lt x l v h) g)
    ∙ lane_xor x (u * 2 ^ (8 * l)) d
    ∙ ap (bit_xor (lane x d)) (lane_other u l d (change_lt x l v h) k)
    ∙ xor_zero_r (lane x d)
