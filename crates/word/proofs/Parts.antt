-- A part of a list that is lent, and what the list is when it has come back.
-- Assumes nothing.
use mathlib.Core.Path.{◌≡◌, sym, ap, ◌∙◌}
use Prim.Native.Nat.{ℕ, ◌+◌, ◌-◌, ◌<◌, ◌≤◌}
use mathlib.Core.List.{List, ◌++◌}
use native.Mathlib.Omega.{arith}
use native.Mathlib.Decide.{dec_lt}
use lib.ListN.{length, get_or, take, drop, length-drop, get_or-append}
use lib.Seq.{length-take-le, get_or-take, get_or-drop, get_or-append-add}
use Rattle.sharing.specs.Run.{tab}
use Rattle.sharing.proofs.Pairs.{tab-at, tab-length}
use Rattle.row.proofs.Filling.{Filled}

-- `&t[p..p + k]` has k places
pub lent_length : (k p : ℕ) (t : List ℕ) → p + k ≤ length t → length (take (p + k - p) (drop p t)) ≡ k
lent_length k p t h =
    let e : p + k - p ≡ k = omega arith in rw e (length-take-le k (drop p t) (rw length-drop (omega arith)))

-- and these are they
pub lent_at : (k p : ℕ) (t : List ℕ) (i : ℕ) → i < k → get_or (take (p + k - p) (drop p t)) i 0 ≡ get_or t (p + i) 0
lent_at k p t i h = get_or-take (p + k - p) (drop p t) i 0 (omega arith) ∙ get_or-drop p t i 0

-- that part of a list has come back as y, and the rest stayed
pub record Back (p k : ℕ) (t y new : List ℕ) : Type 0 where
  pub at : (i : ℕ) → i < k → get_or new (p + i) 0 ≡ get_or y i 0
  pub beside : (i : ℕ) → (p ≤ i → i < p + k → ⊥) → get_or new i 0 ≡ get_or t i 0

pub lent_back : (p k : ℕ) (t y : List ℕ) → length y ≡ k → p + k ≤ length t → Back p k t y (take p t ++ (y ++ drop (p + k - p) (drop p t)))
lent_back p k t y ly lt =
    let r : List ℕ = drop (p + k - p) (drop p t) in
    let l : length (take p t) ≡ p = length-take-le p t (omega arith) in
    record {
      at = λ i hi.
          let e : p + i ≡ length (take p t) + i = omega arith in
          ap (λ (x : ℕ). get_or (take p t ++ (y ++ r)) x 0) e ∙ get_or-append-add (take p t) (y ++ r) i 0 ∙ get_or-append y r 0 i (omega arith);
      beside = λ i h. elim (dec_lt i p) [
        | yes z ↦ get_or-append (take p t) (y ++ r) 0 i (omega arith) ∙ get_or-take p t i 0 z
        | no z ↦ elim (dec_lt i (p + k)) [
          | yes w ↦ absurd (h (omega arith) w)
          | no w ↦
              let m : ℕ = i - (p + k) in
              let e : i ≡ length (take p t) + (length y + m) = omega arith in
              let f : p + (p + k - p + m) ≡ i = omega arith in
              ap (λ (x : ℕ). get_or (take p t ++ (y ++ r)) x 0) e ∙ get_or-append-add (take p t) (y ++ r) (length y + m) 0
              ∙ get_or-append-add y r m 0 ∙ get_or-drop (p + k - p) (drop p t) m 0 ∙ get_or-drop p t (p + k - p + m) 0
              ∙ ap (λ (x : ℕ). get_or t x 0) f
        ]
      ];
    }

-- a list that is filled to p, and whose next k places have come back as h 0, h 1, ..
pub filled_part : (g h : ℕ → ℕ) (p k : ℕ) (y t : List ℕ) → y ≡ tab k h → p + k ≤ length t → Filled g p t → ((j : ℕ) → j < k → h j ≡ g (p + j))
    → Filled g (p + k) (take p t ++ (y ++ drop (p + k - p) (drop p t)))
filled_part g h p k y t q lt F hg =
    let B = lent_back p k t y (ap length q ∙ tab-length k h) lt in
    record {
      at = λ i hi. elim (dec_lt i p) [
        | yes z ↦ B.beside i (λ a b. omega arith) ∙ F.at i z
        | no z ↦
            let f : p + (i - p) ≡ i = omega arith in
            ap (λ (x : ℕ). get_or (take p t ++ (y ++ drop (p + k - p) (drop p t))) x 0) (sym f) ∙ B.at (i - p) (omega arith)
            ∙ ap (λ (x : List ℕ). get_or x (i - p) 0) q ∙ tab-at k h (i - p) (omega arith) ∙ hg (i - p) (omega arith) ∙ ap g f
      ];
    }
