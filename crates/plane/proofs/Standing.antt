-- What stands at one place of a list, after a word is joined there or elsewhere.
-- Assumes nothing.
use mathlib.Core.Path.{◌≡◌, ap, ◌∙◌}
use Prim.Native.Nat.{ℕ, ◌<◌, ◌≤◌}
use mathlib.Core.List.{List}
use native.Mathlib.Omega.{arith}
use lib.Bits.{bit_xor}
use lib.ListN.{length, get_or, length-set}
use lib.Seq.{get_or-set_same, get_or-set_other}
use Rattle.sharing.specs.Code.Bytes.{xor_at}

-- what is known of the list: how long it is at least, and what stands at o
pub record Has (l o x : ℕ) (y : List ℕ) : Type 0 where
  pub size : l ≤ length y
  pub at : get_or y o 0 ≡ x

pub xor_keeps : {l o x : ℕ} (p v : ℕ) {y : List ℕ} → (o ≡ p → ⊥) → Has l o x y → Has l o x (xor_at p v y)
xor_keeps {o = o} p v {y} e H = record { size = simp length-set H.size; at = get_or-set_other y p o _ 0 e ∙ H.at }

pub xor_hits : {l o x : ℕ} (p v : ℕ) {y : List ℕ} → p ≡ o → o < l → Has l o x y → Has l o (bit_xor x v) (xor_at p v y)
xor_hits {o = o} p v {y} e h H =
    record {
      size = simp length-set H.size;
      at = rw e (get_or-set_same y o _ 0 (omega (arith, H.size)) ∙ ap (λ (k : ℕ). bit_xor k v) H.at);
    }
