-- The words of a row in two parts: those that are whole, and the last one of each share, taken in the live lanes. Together they are what
-- `Prepared` says. Assumes nothing.
use mathlib.Core.Path.{◌≡◌, refl, sym, ap, ◌∙◌}
use mathlib.Core.Bool.{Bool}
use Prim.Native.Nat.{ℕ, suc, ◌+◌, ◌-◌, ◌*◌, ◌/◌, ◌%◌, ◌<◌, ◌≤◌}
use mathlib.Core.List.{List}
use native.Mathlib.Omega.{arith}
use native.Mathlib.Decide.{dec_lt}
use native.Mathlib.Nat.{mul-le-mul_right, suc-mul}
use borrow.Author.Tests.{lt-ltb, le-ltb}
use lib.Bits.{bit_and, and_zero_r}
use lib.ListN.{get_or}
use Rattle.field.specs.Field.{pick}
use Rattle.sharing.proofs.Loops.{taken_more}
use Rattle.word.specs.Lanes.{lane, ones, multiple}
use Rattle.word.specs.Rows.{byte_of, words_of, Prepared}
use Rattle.word.proofs.Lanes.{lane-lt, lane_and}
use Rattle.choice.specs.Code.Writing.{WroteGroups, IsMultipleOf, IsLive}
use Rattle.choice.proofs.Live.{and-ones, lane_ones, multiple-zero}

-- the words of a row, of all shares; the last n of them may have lanes of other columns
abbrev pub words : ℕ → ℕ → ℕ
words n columns = words_of columns * n

-- a word that is not the last is before the last ones
early : (n columns e s : ℕ) → s < n → e / 8 + 1 < words_of columns → e / 8 * n + s < words n columns - n
early n columns e s hs h =
    omega (arith, suc-mul (e / 8) n, suc-mul (suc (e / 8)) n, mul-le-mul_right {m = suc (suc (e / 8))} {n = words_of columns} n (omega arith))

-- the last one is among them
late : (n columns e s : ℕ) → s < n → e / 8 + 1 ≡ words_of columns → (words n columns - n ≤ e / 8 * n + s) × (e / 8 * n + s < words n columns)
late n columns e s hs h =
    let a : words n columns ≡ e / 8 * n + n = ap (λ (k : ℕ). k * n) (sym h) ∙ sym (taken_more (e / 8 * n) (e / 8) n refl) in
    (omega arith, omega arith)

module _ (bits n columns live : ℕ) (row other mid new : List ℕ) (L : IsLive columns live)
    (A : WroteGroups bits 0 (words n columns - n) (IsMultipleOf bits ones row) other mid)
    (B : WroteGroups bits (words n columns - n) (words n columns) (IsMultipleOf bits live row) mid new) where
  at_live : (g t l a : ℕ) → l < 8 → lane live l ≡ a → multiple bits t (lane (bit_and (get_or row g 0) live) l) ≡ multiple bits t (bit_and (lane (get_or row g 0) l) a)
  at_live g t l a h e = ap (multiple bits t) (lane_and (get_or row g 0) live l ∙ ap (bit_and (lane (get_or row g 0) l)) e)

  pub both_parts : Prepared bits n columns row new
  unfolding byte_of
  both_parts =
      record {
        at = λ e s t he hs ht.
            let g : ℕ = e / 8 * n + s in
            let l : ℕ = 7 - e % 8 in
            let w : ℕ = get_or row g 0 in
            elim (dec_lt (e / 8 + 1) (words_of columns)) [
              | yes z ↦
                  let k : g < words n columns - n = early n columns e s hs z in
                  ap (λ (x : ℕ). lane x l) (B.beside g t (λ a b. omega arith) ht)
                  ∙ (A.holds g t (omega arith) k ht).at l (omega arith)
                  ∙ ap (multiple bits t) (lane_and w ones l ∙ ap (bit_and (lane w l)) (lane_ones l (omega arith)) ∙ and-ones (lane w l) (lane-lt w l))
                  ∙ ap (λ (b : Bool). pick b (multiple bits t (lane w l)) 0) (sym (lt-ltb e columns (omega arith)))
              | no z ↦
                  let k = late n columns e s hs (omega arith) in
                  (B.holds g t k.0 k.1 ht).at l (omega arith)
                  ∙ elim (dec_lt e columns) [
                    | yes y ↦
                        let v : lane live l ≡ 255 = L.at l (omega arith) ∙ ap (λ (b : Bool). pick b 0 255) (le-ltb l (7 - (columns + 7) % 8) (omega arith)) in
                        at_live g t l 255 (omega arith) v ∙ ap (multiple bits t) (and-ones (lane w l) (lane-lt w l))
                        ∙ ap (λ (b : Bool). pick b (multiple bits t (lane w l)) 0) (sym (lt-ltb e columns y))
                    | no y ↦
                        let v : lane live l ≡ 0 = L.at l (omega arith) ∙ ap (λ (b : Bool). pick b 0 255) (lt-ltb l (7 - (columns + 7) % 8) (omega arith)) in
                        at_live g t l 0 (omega arith) v ∙ ap (multiple bits t) (and_zero_r (lane w l)) ∙ multiple-zero bits t
                        ∙ ap (λ (b : Bool). pick b (multiple bits t (lane w l)) 0) (sym (le-ltb e columns (omega arith)))
                  ]
            ];
      }
