-- Where a byte stands among the blocks and in the stream of shares, and what the n rows hold for a share after the products.
-- Assumes nothing.
use mathlib.Core.Path.{◌≡◌, sym, ap, ap₂, ◌∙◌}
use Prim.Native.Nat.{ℕ, suc, ◌+◌, ◌-◌, ◌*◌, ◌/◌, ◌%◌, ◌<◌, ◌≤◌}
use mathlib.Core.List.{List}
use native.Mathlib.Omega.{arith}
use native.Mathlib.Nat.{suc-mul, add-mul, mul_assoc, mul-le-mul_right, mod-lt, div-add-mod', div-mul-le_self, le_of_mul-le-mul_right, zero-mul}
use native.Mathlib.Decide.{dec_lt}
use lib.Bits.{bit_xor, xor_zero_l}
use lib.ListN.{get_or}
use Rattle.sharing.specs.Run.{before}
use Rattle.row.specs.Code.Shares.{own_draws}

-- ---- blocks of j columns

-- column u is column u % j of block u / j
pub in_block : (n j u s : ℕ) → u / j * (j * n) + (u % j * n + s) ≡ u * n + s
in_block n j u s =
    let e : u / j * (j * n) ≡ u / j * j * n = sym (mul_assoc (u / j) j n) in
    let g : (u / j * j + u % j) * n ≡ u / j * j * n + u % j * n = add-mul (u / j * j) (u % j) n in
    let h : (u / j * j + u % j) * n ≡ u * n = ap (λ (x : ℕ). x * n) (div-add-mod' u j) in
    omega arith

pub byte_in_block : (n j u s : ℕ) → 1 ≤ j → s < n → u % j * n + s < j * n
byte_in_block n j u s hj hs =
    let l : suc (u % j) * n ≤ j * n = mul-le-mul_right n (mod-lt u hj) in
    omega (arith, suc-mul (u % j) n)

-- the block is among those that hold all columns
pub block_there : (n j u s columns blocks : ℕ) → 1 ≤ j → s < n → u < columns → columns * n ≤ blocks * (j * n) → u / j < blocks
block_there n j u s columns blocks hj hs hu h =
    let e : blocks * (j * n) ≡ blocks * j * n = sym (mul_assoc blocks j n) in
    let c : columns ≤ blocks * j = le_of_mul-le-mul_right {m = columns} {n = blocks * j} {k = n} (omega arith) (omega arith) in
    elim (dec_lt (u / j) blocks) [
      | yes l ↦ l
      | no l ↦
          let g : blocks * j ≤ u / j * j = mul-le-mul_right j (omega arith) in
          absurd (omega (arith, div-mul-le_self u j))
    ]

-- ---- the n rows, before and after the products. T u s d is what joins row d at share s of column u

module _ (n span columns : ℕ) (C D : List ℕ) (Z : ℕ → ℕ → ℕ) (P T : ℕ → ℕ → ℕ → ℕ)
    (own : (u s : ℕ) → u < columns → s < n → get_or C (u * n + s) 0 ≡ own_draws n (Z u) s)
    (pair : (u s d i : ℕ) → u < columns → s < n → 1 ≤ d → i + d ≡ s → get_or C (d * span + (u * n + s)) 0 ≡ Z u (before n i + (d - 1)))
    (none : (u s d : ℕ) → u < columns → s < n → s < d → d < n → get_or C (d * span + (u * n + s)) 0 ≡ 0)
    (joins : (u s d : ℕ) → u < columns → s < n → d < n → get_or D (d * span + (u * n + s)) 0 ≡ bit_xor (get_or C (d * span + (u * n + s)) 0) (T u s d))
    (near : (u s d i : ℕ) → u < columns → s < n → i + d ≡ s → T u s d ≡ P u i s)
    (far : (u s d i : ℕ) → u < columns → s < n → s < d → d < n → i + d ≡ s + n → T u s d ≡ P u i s)
  where
    pub own-term : (u s : ℕ) → u < columns → s < n → get_or D (u * n + s) 0 ≡ bit_xor (own_draws n (Z u) s) (P u s s)
    own-term u s hu hs =
        let e : u * n + s ≡ 0 * span + (u * n + s) = omega (arith, zero-mul span) in
        ap (λ (y : ℕ). get_or D y 0) e ∙ joins u s 0 hu hs (omega arith)
        ∙ ap₂ bit_xor (ap (λ (y : ℕ). get_or C y 0) (sym e) ∙ own u s hu hs) (near u s 0 s hu hs (omega arith))

    -- the pair i < s: its draw and the first cross term
    pub first-term : (u s i : ℕ) → u < columns → s < n → i < s
        → get_or D ((s - i) * span + (u * n + s)) 0 ≡ bit_xor (Z u (before n i + (s - suc i))) (P u i s)
    first-term u s i hu hs hi =
        let e : s - i - 1 ≡ s - suc i = omega arith in
        joins u s (s - i) hu hs (omega arith)
        ∙ ap₂ bit_xor (pair u s (s - i) i hu hs (omega arith) (omega arith) ∙ ap (λ (y : ℕ). Z u (before n i + y)) e)
        (near u s (s - i) i hu hs (omega arith))

    -- the second cross term, alone
    pub second-term : (u s i : ℕ) → u < columns → s < n → i < s
        → get_or D ((n - (s - i)) * span + (u * n + s) - (s - i)) 0 ≡ P u s i
    second-term u s i hu hs hi =
        let e : (n - (s - i)) * span + (u * n + s) - (s - i) ≡ (n - (s - i)) * span + (u * n + i) = omega arith in
        ap (λ (y : ℕ). get_or D y 0) e ∙ joins u i (n - (s - i)) hu (omega arith) (omega arith)
        ∙ ap₂ bit_xor (none u i (n - (s - i)) hu (omega arith) (omega arith) (omega arith))
        (far u i (n - (s - i)) s hu (omega arith) (omega arith) (omega arith) (omega arith))
        ∙ xor_zero_l (P u s i)
