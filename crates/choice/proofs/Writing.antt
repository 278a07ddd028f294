-- Loops that write words side by side: what a turn adds to what is written.
-- Assumes nothing.
use mathlib.Core.Path.{◌≡◌, subst⁻¹, ◌∙◌}
use Prim.Native.Nat.{ℕ, suc, ◌+◌, ◌-◌, ◌*◌, ◌<◌, ◌≤◌}
use mathlib.Core.List.{List, ◌++◌}
use native.Mathlib.Omega.{arith}
use native.Mathlib.Decide.{ℕ_discrete, dec_lt}
use native.Mathlib.Nat.{suc-mul, mul-le-mul_right}
use lib.Arith.{digits_lt}
use lib.ListN.{length, get_or, set, take, drop}
use lib.Seq.{get_or-set_same, get_or-set_other}
use Rattle.word.proofs.Parts.{lent_back}
use Rattle.choice.specs.Code.Writing.{Wrote, WroteGroups}

-- the places so far hold what P says, and one more is written
pub holds_next : (P : ℕ → ℕ → Type 0) (k v : ℕ) (a : List ℕ) → k < length a → ((t : ℕ) → t < k → P t (get_or a t 0)) → P k v
    → (t : ℕ) → t < k + 1 → P t (get_or (set a k v) t 0)
holds_next P k v a h W q t l =
    elim (ℕ_discrete t k) [
      | yes z ↦ rw z (subst⁻¹ (P k) (get_or-set_same a k v 0 h) q)
      | no z ↦ subst⁻¹ (P t) (get_or-set_other a k t v 0 z) (W t (omega arith))
    ]

-- a part that was lent, and each of whose places has come back as P says
pub wrote_part : (P : ℕ → ℕ → Type 0) (at k : ℕ) (t y : List ℕ) → length y ≡ k → at + k ≤ length t → ((i : ℕ) → i < length y → P i (get_or y i 0))
    → Wrote at k P t (take at t ++ (y ++ drop (at + k - at) (drop at t)))
wrote_part P at k t y e h holds =
    let B = lent_back at k t y e h in
    record { holds = λ i l. subst⁻¹ (P i) (B.at i l) (holds i (omega arith)); beside = B.beside }

-- ---- groups

-- a place within group g is of group g
inside : (k g h t : ℕ) → t < k → g * k ≤ h * k + t → h * k + t < g * k + k → h ≡ g
inside k g h t l a b =
    elim (dec_lt h g) [
      | yes z ↦ absurd (omega (arith, digits_lt {q = h} {m = g} {r = t} {c = k} z l))
      | no z ↦ elim (dec_lt g h) [
        | yes y ↦ absurd (omega (arith, suc-mul g k, mul-le-mul_right {m = suc g} {n = h} k y))
        | no y ↦ omega arith
      ]
    ]

module _ (k from : ℕ) (P : ℕ → ℕ → ℕ → Type 0) where
  pub groups_next : (g : ℕ) (old new next : List ℕ) → from ≤ g → WroteGroups k from g P old new → Wrote (g * k) k (P g) new next
      → WroteGroups k from (g + 1) P old next
  groups_next g old new next f G W =
      record {
        holds = λ h t a b l. elim (ℕ_discrete h g) [
          | yes z ↦ rw z (W.holds t l)
          | no z ↦ subst⁻¹ (P h t) (stays h t l z) (G.holds h t a (omega arith) l)
        ];
        beside = λ h t a l.
            let z : h ≡ g → ⊥ = λ z. a (omega arith) (omega arith) in
            stays h t l z ∙ G.beside h t (λ x y. a x (omega arith)) l;
      }
    where
      stays : (h t : ℕ) → t < k → (h ≡ g → ⊥) → get_or next (h * k + t) 0 ≡ get_or new (h * k + t) 0
      stays h t l z = W.beside (h * k + t) (λ x y. z (inside k g h t l (omega arith) (omega arith)))
