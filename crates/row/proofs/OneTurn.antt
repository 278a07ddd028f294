-- Loops of which no turn, or one turn alone, does something to what is looked at.
-- Assumes nothing.
use mathlib.Core.Path.{◌≡◌}
use Prim.Native.Nat.{ℕ, ◌<◌, ◌≤◌}
use native.Mathlib.Omega.{arith}
use native.Mathlib.Decide.{ℕ_discrete}
use Rattle.sharing.specs.Run.{run}
use Rattle.sharing.proofs.Pairs.{run_holds}

pub run_keeps : {S : Type 0} (P : S → Type 0) (turn : ℕ → S → S) (n : ℕ) → ((i : ℕ) → i < n → (s : S) → P s → P (turn i s)) → (s : S) → P s → P (run turn n s)
run_keeps P turn n h s p = run_holds (λ i s. P s) turn n h s p

-- turn k takes P to Q, and the others keep both
pub run_one : {S : Type 0} (P Q : S → Type 0) (turn : ℕ → S → S) (n k : ℕ) → k < n
    → ((i : ℕ) → i < n → (i ≡ k → ⊥) → (s : S) → P s → P (turn i s))
    → ((i : ℕ) → i < n → (i ≡ k → ⊥) → (s : S) → Q s → Q (turn i s))
    → ((s : S) → P s → Q (turn k s)) → (s : S) → P s → Q (run turn n s)
run_one P Q turn n k l p q h s x =
    (run_holds (λ i s. (i ≤ k → P s) × (k < i → Q s)) turn n
    (λ i hi s H. (
      λ g. p i hi (λ e. omega arith) s (H.0 (omega arith)),
      λ g. elim (ℕ_discrete i k) [
        | yes e ↦ rw e (h s (H.0 (omega arith)))
        | no e ↦ q i hi e s (H.1 (omega arith))
      ],
    ))
    s (λ g. x, λ g. absurd (omega arith))).1 l
