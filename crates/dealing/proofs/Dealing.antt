-- A row of words that is dealt word by word.
-- Assumes nothing.
use mathlib.Core.Path.{◌≡◌, ap, ◌∙◌}
use mathlib.Core.Bool.{Bool, true, false}
use Prim.Native.Nat.{ℕ, ◌+◌, ◌-◌, ◌*◌, ◌/◌, ◌%◌, ◌<◌}
use mathlib.Core.List.{List}
use native.Mathlib.Omega.{arith}
use native.Mathlib.Decide.{dec_lt}
use native.Mathlib.Nat.{add-mul}
use lib.Bits.{bit_and, and_zero_l, and_mask}
use lib.Dec.{ltb, lit<}
use lib.ListN.{get_or}
use borrow.Author.Tests.{lt-ltb, le-ltb}
use Rattle.field.specs.Field.{pick}
use Rattle.row.proofs.Places.{place_in}
use Rattle.word.specs.Lanes.{lane}
use Rattle.word.specs.Rows.{byte_of, words_of, Dealt}
use Rattle.dealing.proofs.Lanes.{word, lane_word}
use Rattle.dealing.specs.Code.Words.{column_byte, kept_byte, Written, DealtWords}

module _ (low n columns : ℕ) (bytes : List ℕ) where
  -- lane l of word u, which has the eight columns from column f on, moved up so that only those that are left stay
  lane_of : (u f up o s l e : ℕ) → o ≡ f * n → f + 8 + 8 * u ≡ columns + up → (0 < up → f ≡ 0) → l < 8 → e ≡ 8 * u + (7 - l)
      → kept_byte low n bytes o up s l ≡ pick (ltb e columns) (bit_and (get_or bytes ((columns - 1 - e) * n + s) 0) (lane low l)) 0
  unfolding kept_byte column_byte
  lane_of u f up o s l e ho hf hu hl he = elim (dec_lt l up) [
    | yes g ↦
        let z : f ≡ 0 = hu (omega arith) in
        rw (lt-ltb l up g, le-ltb e columns (omega arith)) (and_zero_l (lane low l))
    | no g ↦
        let a : columns - 1 - e ≡ f + (l - up) = omega arith in
        let q : o + s + (l - up) * n ≡ (columns - 1 - e) * n + s = rw a (omega (arith, add-mul f (l - up) n)) in
        rw (le-ltb l up (omega arith), lt-ltb e columns (omega arith)) (ap (λ (x : ℕ). bit_and (get_or bytes x 0) (lane low l)) q)
  ]

  pub dealt_none : (row : List ℕ) → DealtWords low n columns 0 bytes row
  dealt_none row = record { at = λ e s h k. absurd (omega arith) }

  pub dealt_more : (u f up o at : ℕ) (row new : List ℕ) → at ≡ u * n → o ≡ f * n → f + 8 + 8 * u ≡ columns + up → (0 < up → f ≡ 0)
      → DealtWords low n columns u bytes row → Written at n (kept_byte low n bytes o up) row new
      → DealtWords low n columns (u + 1) bytes new
  unfolding byte_of
  dealt_more u f up o at row new ha ho hf hu D W = record {
    at = λ e s he hs. elim (dec_lt e (8 * u)) [
      | yes g ↦
          let h : e / 8 < u = omega arith in
          ap (λ (x : ℕ). lane x (7 - e % 8)) (W.before (e / 8 * n + s) (omega (arith, place_in u n (e / 8) s h hs))) ∙ D.at e s g hs
      | no g ↦
          let q : e / 8 ≡ u = omega arith in
          let p : e / 8 * n + s ≡ at + s = omega (arith, ap (λ (x : ℕ). x * n) q) in
          ap (λ (x : ℕ). lane (get_or new x 0) (7 - e % 8)) p ∙ W.at s (7 - e % 8) hs (omega arith)
          ∙ lane_of u f up o s (7 - e % 8) e ho hf hu (omega arith) (omega arith)
    ];
  }

  -- the bits that low has in each lane are those of a number below q
  pub dealt : (q words : ℕ) (row : List ℕ) → ((x l : ℕ) → l < 8 → bit_and x (lane low l) ≡ x % q) → words ≡ words_of columns
      → DealtWords low n columns words bytes row → Dealt q n columns bytes row
  dealt q words row h k D = record {
    at = λ e s he hs.
        D.at e s (omega arith) hs ∙ ap (λ (x : ℕ). pick (ltb e columns) x 0) (h (get_or bytes ((columns - 1 - e) * n + s) 0) (7 - e % 8) (omega arith));
  }

-- the numbers that cut each lane to an element of F16, and that leave each lane whole
abbrev pub low_of : Bool → ℕ
low_of sixteen = pick sixteen 1085102592571150095 18446744073709551615

pub low_cut : (sixteen : Bool) (x l : ℕ) → l < 8 → bit_and x (lane (low_of sixteen) l) ≡ x % pick sixteen 16 256
unfolding word
low_cut true x l h = ap (bit_and x) (lane_word 8 (λ l. 15) (λ l. lit< tt) l h) ∙ and_mask x 4
low_cut false x l h = ap (bit_and x) (lane_word 8 (λ l. 255) (λ l. lit< tt) l h) ∙ and_mask x 8
