-- Words that are written one by one, each a word of bytes that is moved up and cut.
-- Assumes nothing.
use mathlib.Core.Path.{◌≡◌, refl, ap, subst, ◌∙◌}
use Prim.Native.Nat.{ℕ, ◌+◌, ◌-◌, ◌*◌, ◌/◌, ◌%◌, ◌^◌, ◌<◌}
use mathlib.Core.List.{List}
use native.Mathlib.Omega.{arith}
use native.Mathlib.Decide.{dec_lt}
use native.Mathlib.Nat.{not-suc-le-zero}
use lib.Bits.{bit_and}
use lib.Dec.{ltb}
use lib.ListN.{length, get_or, set, length-set}
use lib.Seq.{get_or-set_same, get_or-set_other}
use Rattle.field.specs.Field.{pick}
use Rattle.word.specs.Lanes.{lane, Lanes}
use Rattle.word.proofs.Lanes.{lane_and}
use Rattle.dealing.specs.Code.Words.{column_byte, kept_byte, Written}
use Rattle.dealing.proofs.Lanes.{lane_up}

-- none yet
pub written_none : (from : ℕ) (g : ℕ → ℕ → ℕ) (row : List ℕ) → Written from 0 g row row
written_none from g row = record { at = λ s l h k. absurd (not-suc-le-zero h); before = λ p h. refl }

-- and one more
pub written_more : (from k : ℕ) (g : ℕ → ℕ → ℕ) (row new : List ℕ) (w p : ℕ) → Written from k g row new → p ≡ from + k → from + k < length new
    → ((l : ℕ) → l < 8 → lane w l ≡ g k l)
    → Written from (k + 1) g row (set new p w)
written_more from k g row new w p W e h f =
    rw e (record {
      at = λ s l hs hl. elim (dec_lt s k) [
        | yes i ↦ ap (λ (x : ℕ). lane x l) (get_or-set_other new (from + k) (from + s) w 0 (λ q. omega arith)) ∙ W.at s l i hl
        | no i ↦
            let q : s ≡ k = omega arith in
            rw q (ap (λ (x : ℕ). lane x l) (get_or-set_same new (from + k) w 0 h) ∙ f l hl)
      ];
      before = λ i hi. get_or-set_other new (from + k) i w 0 (λ q. omega arith) ∙ W.before i hi;
    })

-- all
pub written_all : (from k n : ℕ) (g : ℕ → ℕ → ℕ) (row new : List ℕ) → Written from k g row new → k ≡ n → Written from n g row new
written_all from k n g row new W e = subst (λ (x : ℕ). Written from x g row new) e W

-- and the last
pub written_last : (from k n : ℕ) (g : ℕ → ℕ → ℕ) (row new : List ℕ) (w p : ℕ) → Written from k g row new → k + 1 ≡ n → p ≡ from + k → from + k < length new
    → ((l : ℕ) → l < 8 → lane w l ≡ g k l)
    → Written from n g row (set new p w)
written_last from k n g row new w p W e f h a =
    written_all from (k + 1) n g row (set new p w) (written_more from k g row new w p W f h a) e

pub written-two : (from k : ℕ) (g : ℕ → ℕ → ℕ) (row new : List ℕ) (v w p q : ℕ) → Written from k g row new → p ≡ from + k → q ≡ from + (k + 1)
    → from + (k + 1) < length new
    → ((l : ℕ) → l < 8 → lane v l ≡ g k l) → ((l : ℕ) → l < 8 → lane w l ≡ g (k + 1) l)
    → Written from (k + 2) g row (set (set new p v) q w)
written-two from k g row new v w p q W e f h a b =
    let t : k + 1 + 1 ≡ k + 2 = omega arith in
    written_all from (k + 1 + 1) (k + 2) g row (set (set new p v) q w)
    (written_more from (k + 1) g row (set new p v) w q (written_more from k g row new v p W e (omega arith) a) f (simp length-set h) b)
    t

-- a word of bytes, moved up
pub moved : (n : ℕ) (d : List ℕ) (o p s shift w : ℕ) → shift % 8 ≡ 0 → p ≡ o + s → Lanes w (λ l. get_or d (p + l * n) 0)
    → Lanes (w * 2 ^ shift % 2 ^ 64) (column_byte n d o (shift / 8) s)
unfolding column_byte
moved n d o p s shift w h q L =
    let c : ℕ = shift / 8 in
    let e : shift ≡ 8 * c = omega arith in
    record {
      at = λ l hl.
          ap (λ (x : ℕ). lane (w * 2 ^ x % 2 ^ 64) l) e ∙ lane_up w c l hl
          ∙ ap (λ (x : ℕ). pick (ltb l c) 0 x) (L.at (l - c) (omega arith) ∙ ap (λ (x : ℕ). get_or d (x + (l - c) * n) 0) q);
    }

-- and cut
pub cut : (low n : ℕ) (d : List ℕ) (o up s w : ℕ) → Lanes w (column_byte n d o up s) → (l : ℕ) → l < 8
    → lane (bit_and w low) l ≡ kept_byte low n d o up s l
unfolding kept_byte
cut low n d o up s w L l h = lane_and w low l ∙ ap (λ (x : ℕ). bit_and x (lane low l)) (L.at l h)
