-- Two words that hold pairs of bytes, of even columns and of odd columns, give the word of the first bytes and the word of the second ones.
-- Assumes nothing.
use mathlib.Core.Path.{◌≡◌, refl, sym, ap, ap₂, ◌∙◌}
use Prim.Native.Nat.{ℕ, suc, ◌+◌, ◌-◌, ◌*◌, ◌/◌, ◌%◌, ◌^◌, ◌<◌}
use mathlib.Core.List.{List}
use native.Mathlib.Omega.{arith}
use native.Mathlib.Decide.{dec_lt}
use native.Mathlib.Nat.{mul_assoc, suc-mul}
use lib.Bits.{bit_xor, bit_and, xor_zero_l, xor_zero_r, and_zero_r}
use lib.ListN.{get_or}
use borrow.Author.Tests.{lt-ltb, le-ltb}
use Rattle.word.specs.Lanes.{lane, Lanes}
use Rattle.word.proofs.Lanes.{lane_xor, lane_and}
use Rattle.dealing.proofs.Lanes.{word, lane_word, lane_down, lane_up, kept}

-- the masks of even and of odd lanes
abbrev evens : ℕ
evens = 71777214294589695

abbrev odds : ℕ
odds = 18374966859414961920

evens-lane : (l : ℕ) → l < 8 → lane evens l ≡ (1 - l % 2) * 255
unfolding word
evens-lane l h = lane_word 8 (λ l. (1 - l % 2) * 255) (λ l. omega arith) l h

odds-lane : (l : ℕ) → l < 8 → lane odds l ≡ l % 2 * 255
unfolding word
odds-lane l h = lane_word 8 (λ l. l % 2 * 255) (λ l. omega arith) l h

-- a lane that a mask keeps, and one that it does not
module _ (w mask l : ℕ) where
  stays : lane mask l ≡ 255 → lane (bit_and w mask) l ≡ lane w l
  stays h = lane_and w mask l ∙ ap (bit_and (lane w l)) h ∙ kept w l

  goes : lane mask l ≡ 0 → lane (bit_and w mask) l ≡ 0
  goes h = lane_and w mask l ∙ ap (bit_and (lane w l)) h ∙ and_zero_r (lane w l)

evens_stay : (w l : ℕ) → l < 8 → l % 2 ≡ 0 → lane (bit_and w evens) l ≡ lane w l
evens_stay w l h g = stays w evens l (evens-lane l h ∙ ap (λ (x : ℕ). (1 - x) * 255) g)

evens_go : (w l : ℕ) → l < 8 → l % 2 ≡ 1 → lane (bit_and w evens) l ≡ 0
evens_go w l h g = goes w evens l (evens-lane l h ∙ ap (λ (x : ℕ). (1 - x) * 255) g)

odds_stay : (w l : ℕ) → l < 8 → l % 2 ≡ 1 → lane (bit_and w odds) l ≡ lane w l
odds_stay w l h g = stays w odds l (odds-lane l h ∙ ap (λ (x : ℕ). x * 255) g)

odds_go : (w l : ℕ) → l < 8 → l % 2 ≡ 0 → lane (bit_and w odds) l ≡ 0
odds_go w l h g = goes w odds l (odds-lane l h ∙ ap (λ (x : ℕ). x * 255) g)

-- two columns at a time
twice : (l n : ℕ) → l % 2 ≡ 0 → l / 2 * (2 * n) ≡ l * n
twice l n h = let e : l / 2 * 2 ≡ l = omega arith in sym (mul_assoc (l / 2) 2 n) ∙ ap (λ (x : ℕ). x * n) e

module _ (d : List ℕ) (o n even odd : ℕ) (E : Lanes even (λ l. get_or d (o + l / 2 * (2 * n) + l % 2) 0))
    (O : Lanes odd (λ l. get_or d (o + n + l / 2 * (2 * n) + l % 2) 0)) where
  place : (i j : ℕ) → i ≡ j → get_or d i 0 ≡ get_or d j 0
  place i j e = ap (λ (x : ℕ). get_or d x 0) e

  odd_up : (l : ℕ) → l < 8 → l % 2 ≡ 0 → lane (bit_and odd evens * 256 % 2 ^ 64) l ≡ 0
  odd_up l h g = lane_up (bit_and odd evens) 1 l h ∙ elim (dec_lt l 1) [
    | yes k ↦ rw (lt-ltb l 1 k) refl
    | no k ↦ rw (le-ltb l 1 (omega arith)) (evens_go odd (l - 1) (omega arith) (omega arith))
  ]

  pub firsts : Lanes (bit_xor (bit_and even evens) (bit_and odd evens * 256 % 2 ^ 64)) (λ l. get_or d (o + l * n) 0)
  firsts = record {
    at = λ l h. lane_xor (bit_and even evens) (bit_and odd evens * 256 % 2 ^ 64) l ∙ elim (dec_lt (l % 2) 1) [
      | yes k ↦
          let g : l % 2 ≡ 0 = omega arith in
          ap₂ bit_xor (evens_stay even l h g) (odd_up l h g) ∙ xor_zero_r (lane even l) ∙ E.at l h ∙ place _ _ (omega (arith, twice l n g))
      | no k ↦
          let g : (l - 1) % 2 ≡ 0 = omega arith in
          let e : suc (l - 1) ≡ l = omega arith in
          let m : suc (l - 1) * n ≡ l * n = ap (λ (x : ℕ). x * n) e in
          ap₂ bit_xor (evens_go even l h (omega arith)) (lane_up (bit_and odd evens) 1 l h ∙ rw (le-ltb l 1 (omega arith)) (evens_stay odd (l - 1) (omega arith) g))
          ∙ xor_zero_l (lane odd (l - 1)) ∙ O.at (l - 1) (omega arith) ∙ place _ _ (omega (arith, twice (l - 1) n g, suc-mul (l - 1) n))
    ];
  }

  pub seconds : Lanes (bit_xor (bit_and (even / 256) evens) (bit_and odd odds)) (λ l. get_or d (o + 1 + l * n) 0)
  seconds = record {
    at = λ l h. lane_xor (bit_and (even / 256) evens) (bit_and odd odds) l ∙ elim (dec_lt (l % 2) 1) [
      | yes k ↦
          let g : l % 2 ≡ 0 = omega arith in
          let e : suc l / 2 ≡ l / 2 = omega arith in
          let m : suc l / 2 * (2 * n) ≡ l / 2 * (2 * n) = ap (λ (x : ℕ). x * (2 * n)) e in
          ap₂ bit_xor (evens_stay (even / 256) l h g ∙ lane_down even l ∙ E.at (suc l) (omega arith)) (odds_go odd l h g) ∙ xor_zero_r _
          ∙ place _ _ (omega (arith, twice l n g))
      | no k ↦
          let g : (l - 1) % 2 ≡ 0 = omega arith in
          let e : suc (l - 1) ≡ l = omega arith in
          let m : suc (l - 1) * n ≡ l * n = ap (λ (x : ℕ). x * n) e in
          let f : l / 2 * (2 * n) ≡ (l - 1) / 2 * (2 * n) = ap (λ (x : ℕ). x * (2 * n)) (omega arith) in
          ap₂ bit_xor (evens_go (even / 256) l h (omega arith)) (odds_stay odd l h (omega arith)) ∙ xor_zero_l (lane odd l)
          ∙ O.at l h ∙ place _ _ (omega (arith, twice (l - 1) n g, suc-mul (l - 1) n))
    ];
  }
