-- A list that is filled place by place.
-- Assumes nothing.
use mathlib.Core.Path.{◌≡◌, refl, sym, ap, ◌∙◌}
use Prim.Native.Nat.{ℕ, zero, suc, ◌+◌, ◌<◌}
use mathlib.Core.List.{List}
use native.Mathlib.Omega.{arith}
use native.Mathlib.Decide.{ℕ_discrete}
use lib.ListN.{length, get_or, set, replicate}
use lib.Seq.{get_or-set_same, get_or-set_other}
use Rattle.sharing.specs.Run.{tab}
use Rattle.sharing.proofs.Pairs.{tab_list, tab_ext}

-- the places before k hold what g says
pub record Filled (g : ℕ → ℕ) (k : ℕ) (a : List ℕ) : Type 0 where
  pub at : (i : ℕ) → i < k → get_or a i 0 ≡ g i

pub filled_next : (g : ℕ → ℕ) (k v : ℕ) (a : List ℕ) → k < length a → Filled g k a → v ≡ g k → Filled g (k + 1) (set a k v)
filled_next g k v a h F e =
    record {
      at = λ i l. elim (ℕ_discrete i k) [
        | yes z ↦ rw z (get_or-set_same a k v 0 h ∙ e)
        | no z ↦ get_or-set_other a k i v 0 z ∙ F.at i (omega arith)
      ];
    }

pub filled_all : (g : ℕ → ℕ) (k l : ℕ) (a : List ℕ) → length a ≡ l → k ≡ l → Filled g k a → a ≡ tab l g
filled_all g k l a h e F =
    sym (tab_list a) ∙ tab_ext (length a) (λ i z. F.at i (omega arith)) ∙ ap (λ (y : ℕ). tab y g) h

-- an array of zeros holds 0 everywhere
pub zeros-at : (n o : ℕ) → get_or {A = ℕ} (replicate n 0) o 0 ≡ 0
zeros-at zero o = refl
zeros-at (suc n) zero = refl
zeros-at (suc n) (suc o) = zeros-at n o
