-- A choice for each bit is, lane by lane, the field's product.
-- Assumes nothing.
use mathlib.Core.Path.{◌≡◌, refl, sym, ap, ap₂, ◌∙◌}
use mathlib.Core.Bool.{Bool, true, false}
use mathlib.Core.Logic.{◌⊎◌, ⊎_elim}
use Prim.Native.Nat.{ℕ, zero, suc, ◌+◌, ◌*◌, ◌/◌, ◌%◌, ◌^◌, ◌<◌}
use mathlib.Core.List.{List, []}
use native.Mathlib.Omega.{arith}
use native.Mathlib.Nat.{mod-eq_of_lt, zero-mul, one-mul, mul-zero, pow-succ', div-div-eq-div-mul}
use lib.Bits.{bit_xor, bit_and, and_comm, and_mask, and_zero_l, xor_zero_r}
use lib.Dec.{eqb, eqb→eq, lit<}
use lib.ListN.{get_or}
use Rattle.field.specs.Field.{pick, Field, Binary, field_of, bits}
use Rattle.field.proofs.Xor.{bit, bit_lt}
use Rattle.field.proofs.Linear.{Additive, at_zero, all-at}
use Rattle.field.proofs.Fields.{field_of_lem}
use Rattle.field.proofs.Inverses.{zero-mul as none-times}
use Rattle.sharing.specs.Run.{tab}
use Rattle.sharing.proofs.Pairs.{tab-at}
use Rattle.row.specs.Code.Products.{term}
use Rattle.row.specs.Code.Streams.{doubled}
use Rattle.row.proofs.TermLaw.{term-mul}
use Rattle.word.specs.Lanes.{lane, ones, multiple}
use Rattle.word.proofs.Lanes.{lane-lt, lane_xor, lane_and}
use Rattle.plane.specs.Code.Products.{dot}

pub lane_additive : (l : ℕ) → Additive (λ w. lane w l)
lane_additive l = record { sum = λ a b. lane_xor a b l }

-- ---- a mask of ones or of zeros

lane_ones : (l : ℕ) → l < 8 → lane ones l ≡ 255
unfolding lane
lane_ones l h = eqb→eq _ _ (all-at 8 (λ l. eqb (lane ones l) 255) tt l h)

lane-all : (w l : ℕ) → l < 8 → lane (bit_and ones w) l ≡ lane w l
lane-all w l h =
    lane_and ones w l ∙ ap (λ (x : ℕ). bit_and x (lane w l)) (lane_ones l h) ∙ and_comm 255 (lane w l) ∙ and_mask (lane w l) 8
    ∙ mod-eq_of_lt (lane-lt w l)

lane_choice : (y w l : ℕ) → l < 8 → y < 2 → lane (bit_and (y * ones) w) l ≡ y * lane w l
lane_choice y w l h g =
    bit (λ (y : ℕ). lane (bit_and (y * ones) w) l ≡ y * lane w l)
    (ap (λ (x : ℕ). lane x l) (and_zero_l w) ∙ at_zero (lane_additive l) ∙ sym (zero-mul (lane w l)))
    (lane-all w l h ∙ sym (one-mul (lane w l))) g

-- ---- the words that masks choose, lane by lane: y has the masks' bits, and m what stands in the lane

module _ (masks other m : List ℕ) (l : ℕ) (hl : l < 8) where
  lane-dot : (k a b g y : ℕ) → ((t : ℕ) → t < k → get_or masks (a + t) 0 ≡ y / 2 ^ t % 2 * ones)
      → ((t : ℕ) → t < k → lane (get_or other (b + t) 0) l ≡ get_or m (g + t) 0)
      → lane (dot k masks a other b) l ≡ term m 1 k g y
  unfolding dot term
  lane-dot zero a b g y h d = at_zero (lane_additive l)
  lane-dot (suc k) a b g y h d =
      let ea : a + 0 ≡ a = omega arith in
      let eb : b + 0 ≡ b = omega arith in
      let eg : g + 0 ≡ g = omega arith in
      let ey : y / 2 ^ 0 % 2 ≡ y % 2 = omega arith in
      let first : get_or masks a 0 ≡ y % 2 * ones = ap (λ (x : ℕ). get_or masks x 0) (sym ea) ∙ h 0 (omega arith) ∙ ap (λ (x : ℕ). x * ones) ey in
      let stands : lane (get_or other b 0) l ≡ get_or m g 0 = ap (λ (x : ℕ). lane (get_or other x 0) l) (sym eb) ∙ d 0 (omega arith) ∙ ap (λ (x : ℕ). get_or m x 0) eg in
      lane_xor (bit_and (get_or masks a 0) (get_or other b 0)) (dot k masks (a + 1) other (b + 1)) l
      ∙ ap₂ bit_xor
      (ap (λ (x : ℕ). lane (bit_and x (get_or other b 0)) l) first ∙ lane_choice (y % 2) (get_or other b 0) l hl (bit_lt y) ∙ ap (λ (x : ℕ). y % 2 * x) stands)
      (lane-dot k (a + 1) (b + 1) (g + 1) (y / 2)
      (λ t ht.
      let e : a + 1 + t ≡ a + suc t = omega arith in
      let half : y / 2 ^ suc t ≡ y / 2 / 2 ^ t = ap (λ (x : ℕ). y / x) (pow-succ' 2 t) ∙ sym (div-div-eq-div-mul y 2 (2 ^ t)) in
      ap (λ (x : ℕ). get_or masks x 0) e ∙ h (suc t) (omega arith) ∙ ap (λ (x : ℕ). x % 2 * ones) half)
      (λ t ht.
      let e : b + 1 + t ≡ b + suc t = omega arith in
      let f : g + suc t ≡ g + 1 + t = omega arith in
      ap (λ (x : ℕ). lane (get_or other x 0) l) e ∙ d (suc t) (omega arith) ∙ ap (λ (x : ℕ). get_or m x 0) f))

-- where nothing stands in the lane
term_none : (k g y : ℕ) → term [] 1 k g y ≡ 0
unfolding term
term_none zero g y = refl
term_none (suc k) g y = ap₂ bit_xor (mul-zero (y % 2)) (term_none k (g + 1) (y / 2))

pub lane_none : (masks other : List ℕ) (l : ℕ) → l < 8 → (k a b y : ℕ) → ((t : ℕ) → t < k → get_or masks (a + t) 0 ≡ y / 2 ^ t % 2 * ones)
    → ((t : ℕ) → t < k → lane (get_or other (b + t) 0) l ≡ 0) → lane (dot k masks a other b) l ≡ 0
lane_none masks other l hl k a b y h d = lane-dot masks other [] l hl k a b 0 y h d ∙ term_none k 0 y

-- ---- where an element and its doubles stand there

-- a factor's share is taken for all of the field's bits, or for one and is 0 or 1
abbrev pub Taken : ℕ → ℕ → ℕ → Type 0
Taken f w a = (w ≡ bits f) ⊎ ((w ≡ 1) × (a < 2))

widths_pos : (b : Bool) → 0 < pick b 4 8
widths_pos true = lit< tt
widths_pos false = lit< tt

module _ {f : ℕ} (B : Binary f) (a b : ℕ) (hb : b < (field_of f).q) where
  F : Field (field_of f)
  F = field_of_lem f

  pos : 0 < bits f
  pos = rw B.has (widths_pos B.sixteen)

  all-bits : term (tab (bits f) (λ t. multiple (bits f) t b)) 1 (bits f) 0 a ≡ (field_of f).mul a b
  unfolding multiple
  all-bits =
      let w : ℕ = bits f in
      term-mul B (tab w (λ t. multiple w t b)) 1 0 b a hb (tab-at w (λ t. multiple w t b) 0 pos)
      (λ t h.
      let e : 0 + (t + 1) * 1 ≡ suc t = omega arith in
      let d : t ≡ 0 + t * 1 = omega arith in
      ap (λ (x : ℕ). get_or (tab w (λ t. multiple w t b)) x 0) e ∙ tab-at w (λ t. multiple w t b) (suc t) (omega arith)
      ∙ ap (doubled w) (sym (tab-at w (λ t. multiple w t b) t (omega arith)) ∙ ap (λ (x : ℕ). get_or (tab w (λ t. multiple w t b)) x 0) d))
      ∙ F.ring.mul_comm b a

  one_bit : a < 2 → term (tab 1 (λ t. multiple 1 t b)) 1 1 0 a ≡ (field_of f).mul a b
  unfolding term multiple
  one_bit h =
      bit (λ (a : ℕ). bit_xor (a % 2 * b) 0 ≡ (field_of f).mul a b)
      (xor_zero_r (0 * b) ∙ zero-mul b ∙ sym (none-times (field_of f) F b))
      (xor_zero_r (1 * b) ∙ one-mul b ∙ sym (F.ring.mul_comm 1 b ∙ F.mul-one b ∙ mod-eq_of_lt hb)) h

  taken : (w : ℕ) → Taken f w a → term (tab w (λ t. multiple w t b)) 1 w 0 a ≡ (field_of f).mul a b
  taken w c = ⊎_elim (λ (e : w ≡ bits f). rw e all-bits) (λ (e : (w ≡ 1) × (a < 2)). rw e.0 (one_bit e.1)) c

  pub lane-product : (masks other : List ℕ) (l : ℕ) → l < 8 → (w : ℕ) → Taken f w a → (i j : ℕ)
      → ((t : ℕ) → t < w → get_or masks (i + t) 0 ≡ a / 2 ^ t % 2 * ones)
      → ((t : ℕ) → t < w → lane (get_or other (j + t) 0) l ≡ multiple w t b)
      → lane (dot w masks i other j) l ≡ (field_of f).mul a b
  lane-product masks other l hl w c i j h d =
      lane-dot masks other (tab w (λ t. multiple w t b)) l hl w i j 0 a h
      (λ t ht.
      let e : t ≡ 0 + t = omega arith in
      d t ht ∙ sym (tab-at w (λ t. multiple w t b) t ht) ∙ ap (λ (x : ℕ). get_or (tab w (λ t. multiple w t b)) x 0) e)
      ∙ taken w c
