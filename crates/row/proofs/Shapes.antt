-- The numbers of a Shape fit together: the blocks hold the row, the work rows hold the blocks, and the room holds the work rows; so the passes
-- leave Products.
-- Assumes nothing.
use mathlib.Core.Path.{◌≡◌, refl, sym, ap, ap₂, ◌∙◌}
use Prim.Native.Nat.{ℕ, suc, ◌+◌, ◌-◌, ◌*◌, ◌/◌, ◌%◌, ◌^◌, ◌<◌, ◌≤◌}
use mathlib.Core.List.{List}
use native.Mathlib.Omega.{arith}
use native.Mathlib.Decide.{dec_lt}
use native.Mathlib.Nat.{suc-mul, mul_assoc, mul-le-mul_right, mul-le-mul_left, mod-lt, div-add-mod', div-mul-le_self, zero-mul, le_refl}
use lib.ListN.{length, replicate, length-replicate}
use Rattle.std.proofs.lemmas.Nat.{le-div}
use Rattle.std.proofs.Common.{◌⊎◌, inl, inr}
use Rattle.field.specs.Field.{field_of, bits}
use Rattle.field.proofs.Fields.{binary_of}
use Rattle.sharing.specs.Bounds.{most_width, row_room}
use Rattle.sharing.specs.Lists.{Below}
use Rattle.row.specs.Code.Shape.{Shape, span_of}
use Rattle.row.specs.Code.Streams.{repeated, doubled_rows}
use Rattle.row.specs.Code.Spread.{spread_all}
use Rattle.row.specs.Code.Products.{all_products}
use Rattle.row.specs.Code.Gather.{gather_all}
use Rattle.row.specs.Rows.{Products}
use Rattle.row.proofs.Filling.{zeros-at}
use Rattle.row.proofs.Assembling.{passes_left}

-- ---- whole blocks of l

-- they hold x
pub blocks-hold : (x l : ℕ) → 1 ≤ l → x ≤ (x + (l - 1)) / l * l
blocks-hold x l h = omega (arith, div-add-mod' (x + (l - 1)) l, mod-lt (x + (l - 1)) h)

-- and no fewer do
pub blocks-least : (x l t : ℕ) → 1 ≤ l → x ≤ t * l → (x + (l - 1)) / l ≤ t
blocks-least x l t h g = elim (dec_lt t ((x + (l - 1)) / l)) [
  | yes k ↦ absurd (omega (arith, suc-mul t l, mul-le-mul_right l k, div-mul-le_self (x + (l - 1)) l))
  | no k ↦ omega arith
]

module _ {b n l w stream room : ℕ} (S : Shape b n l w stream room) (columns : ℕ) (le : columns ≤ most_width) where
  pub span_fits : columns * n ≤ span_of n w columns
  span_fits = blocks-hold (columns * n) w S.wide.0

  more_columns : span_of n w columns ≤ span_of n w most_width
  more_columns =
      mul-le-mul_right w (blocks-least (columns * n) w ((most_width * n + (w - 1)) / w) S.wide.0
      (omega (arith, mul-le-mul_right n le, blocks-hold (most_width * n) w S.wide.0)))

  pub span_room : span_of n w columns ≤ row_room
  span_room = omega (arith, more_columns, S.row_is)

  pub rows_room : n * span_of n w columns ≤ room
  rows_room = rw S.room_is (mul-le-mul_left n more_columns)

  -- the blocks of the products are within the work rows
  pub blocks_in : (columns * n + (l - 1)) / l * l ≤ span_of n w columns
  blocks_in =
      let t : ℕ = (columns * n + (w - 1)) / w in
      let e : span_of n w columns ≡ t * (w / l) * l = ap (λ (y : ℕ). t * y) S.wide.2 ∙ sym (mul_assoc t (w / l) l) in
      rw e (mul-le-mul_right l (blocks-least (columns * n) l (t * (w / l)) S.block.0 (rw (← e) span_fits)))

  pub shares_in : 1 ≤ columns → n ≤ span_of n w columns
  shares_in h = omega (arith, mul-le-mul_right n h, span_fits)

-- ---- the passes

pub bits_in : {b n l w stream room : ℕ} → Shape b n l w stream room → (1 ≤ b) × (b ≤ 8)
bits_in S = elim S.field [
  | inl h ↦ (omega arith, omega arith)
  | inr h ↦ (omega arith, omega arith)
]

-- q, as the code works it out
pub shifted : {b n l w stream room : ℕ} → Shape b n l w stream room → 1 * 2 ^ b % 2 ^ 64 ≡ 2 ^ b
shifted S = elim S.field [
  | inl e ↦ rw e refl
  | inr e ↦ rw e refl
]

bits_are : (b : ℕ) → (b ≡ 4) ⊎ (b ≡ 8) → bits (2 ^ b) ≡ b
unfolding bits
bits_are b h = elim h [
  | inl e ↦ rw e refl
  | inr e ↦ rw e refl
]

module _ {b n l w stream room : ℕ} (S : Shape b n l w stream room) (columns : ℕ) (le : columns ≤ most_width) where
  abbrev span : ℕ
  span = span_of n w columns

  abbrev blocks : ℕ
  blocks = (columns * n + (l - 1)) / l

  abbrev wide : ℕ
  wide = (columns * n + (w - 1)) / w

  stream-room : (b - 1) * (l + 16) + (l + 16) ≤ stream
  stream-room =
      let e : suc (b - 1) ≡ b = omega (arith, bits_in S) in
      rw S.stream_is (omega (arith, suc-mul (b - 1) (l + 16), ap (λ (i : ℕ). i * (l + 16)) e))

  few : 0 < n
  few = omega (arith, S.least)

  -- blocks of some bytes are of some columns
  some : (x : ℕ) → 1 ≤ x → x ≡ x / n * n → 1 ≤ x / n
  some x h e = elim (dec_lt 0 (x / n)) [
    | yes k ↦ k
    | no k ↦ let z : x / n ≡ 0 = omega arith in absurd (omega (arith, e, ap (λ (y : ℕ). y * n) z, zero-mul n))
  ]

  pub shaped : (ds a row : List ℕ) → length row ≡ row_room → length a ≡ n → Below (field_of (2 ^ b)).q a → (c₁ m₁ m₂ c₂ out : List ℕ)
      → c₁ ≡ spread_all n columns span ds (replicate room 0) → m₁ ≡ repeated n ((l + 16) / n) a (replicate stream 0) → m₂ ≡ doubled_rows b (l + 16) m₁
      → c₂ ≡ all_products b n l (l + 16) blocks span row m₂ c₁ → out ≡ gather_all n w wide span c₂ row
      → Products (field_of (2 ^ b)) n columns ds a row out
  shaped ds a row lr la small c₁ m₁ m₂ c₂ out ec em ed ep eg =
      let e : b ≡ bits (2 ^ b) = sym (bits_are b S.field) in
      passes_left (binary_of (2 ^ b)) n columns ((l + 16) / n) (l + 16) (l / n) blocks (w / n) wide span ds a row (replicate room 0) (replicate stream 0)
      (omega (arith, S.least)) (omega arith) (rw (← e) (simp length-replicate stream-room)) (div-mul-le_self (l + 16) n)
      (some l S.block.0 S.block.2) (le-div (suc (l / n)) (l + 16) n few (omega (arith, suc-mul (l / n) n, S.block.2, S.most))) (some w S.wide.0 S.wide.1)
      (rw (← S.block.2) (blocks-hold (columns * n) l S.block.0)) (rw (← S.block.2) (blocks_in S columns le))
      (rw (← S.wide.1) (span_fits S columns le)) (rw (← S.wide.1) (le_refl _))
      (simp length-replicate (rows_room S columns le)) (omega (arith, span_room S columns le)) (zeros-at room) small la c₁ m₁ m₂ c₂ out ec em
      (ed ∙ ap (λ (y : ℕ). doubled_rows y (l + 16) m₁) e)
      (ep ∙ ap₂ (λ (y z : ℕ). all_products y n z (l + 16) blocks span row m₂ c₁) e S.block.2)
      (eg ∙ ap (λ (y : ℕ). gather_all n y wide span c₂ row) S.wide.1)
