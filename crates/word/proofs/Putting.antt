-- Entries of a row that are stored one after the other: what a loop over the shares of an entry leaves, and a loop over columns.
-- Assumes nothing.
use mathlib.Core.Path.{◌≡◌, refl, sym, ap, ◌∙◌}
use Prim.Native.Nat.{ℕ, suc, ◌+◌, ◌-◌, ◌*◌, ◌/◌, ◌%◌, ◌<◌, ◌≤◌}
use mathlib.Core.List.{List}
use native.Mathlib.Omega.{arith}
use native.Mathlib.Decide.{ℕ_discrete}
use lib.Arith.{digits_div, digits_mod}
use lib.ListN.{length, get_or, take, drop, set}
use lib.Seq.{get_or-set_same, get_or-set_other}
use Rattle.word.specs.Lanes.{lane}
use Rattle.word.specs.Rows.{byte_of, PutEntry, PutBytes}
use Rattle.word.proofs.Lanes.{changed, changed-at, changed_beside}
use Rattle.word.proofs.Parts.{lent_at}

-- ---- one share

-- two places of groups of n words are the same only where group and share are
pub same_group : (n g h s t : ℕ) → s < n → t < n → g * n + s ≡ h * n + t → g ≡ h
same_group n g h s t ls lt e = sym (digits_div g ls) ∙ ap (λ (x : ℕ). x / n) e ∙ digits_div h lt

pub same_share : (n g h s t : ℕ) → s < n → t < n → g * n + s ≡ h * n + t → s ≡ t
same_share n g h s t ls lt e = sym (digits_mod g ls) ∙ ap (λ (x : ℕ). x % n) e ∙ digits_mod h lt

-- share s of the entry has become v, and the others stayed
pub record PutShare (n e s v : ℕ) (row new : List ℕ) : Type 0 where
  pub at : byte_of n new e s ≡ v
  pub beside : (d t : ℕ) → t < n → (d ≡ e → t ≡ s → ⊥) → byte_of n new d t ≡ byte_of n row d t

pub share-put : (n e s v : ℕ) (row : List ℕ) → s < n → e / 8 * n + n ≤ length row → v < 256
    → PutShare n e s v row (set row (e / 8 * n + s) (changed (get_or row (e / 8 * n + s) 0) (7 - e % 8) v))
unfolding byte_of
share-put n e s v row hs hl hv =
    let p : ℕ = e / 8 * n + s in
    let x : ℕ = get_or row p 0 in
    let y : ℕ = changed x (7 - e % 8) v in
    record {
      at = ap (λ (k : ℕ). lane k (7 - e % 8)) (get_or-set_same row p y 0 (omega arith)) ∙ changed-at x (7 - e % 8) v (omega arith) hv;
      beside = λ d t ht h. elim (ℕ_discrete (d / 8 * n + t) p) [
        | yes z ↦
            let a : d / 8 ≡ e / 8 = same_group n (d / 8) (e / 8) t s ht hs z in
            let b : t ≡ s = same_share n (d / 8) (e / 8) t s ht hs z in
            let g : d ≡ e → ⊥ = λ k. h k b in
            let k : 7 - d % 8 ≡ 7 - e % 8 → ⊥ = λ k. g (omega arith) in
            rw z (ap (λ (k : ℕ). lane k (7 - d % 8)) (get_or-set_same row p y 0 (omega arith)) ∙ changed_beside x (7 - e % 8) v (7 - d % 8) (omega arith) hv k)
        | no z ↦ ap (λ (k : ℕ). lane k (7 - d % 8)) (get_or-set_other row p (d / 8 * n + t) y 0 z)
      ];
    }

-- ---- the shares of an entry, so far

pub record PutShares (n e k : ℕ) (v row new : List ℕ) : Type 0 where
  pub at : (s : ℕ) → s < k → byte_of n new e s ≡ get_or v s 0
  pub beside : (d t : ℕ) → t < n → (d ≡ e → t < k → ⊥) → byte_of n new d t ≡ byte_of n row d t

pub shares_none : (n e : ℕ) (v row : List ℕ) → PutShares n e 0 v row row
shares_none n e v row = record { at = λ s h. absurd (omega arith); beside = λ d t h g. refl }

pub shares_next : (n e k : ℕ) (v row new next : List ℕ) → k < n → PutShares n e k v row new → PutShare n e k (get_or v k 0) new next
    → PutShares n e (k + 1) v row next
shares_next n e k v row new next l P Q =
    record {
      at = λ s h. elim (ℕ_discrete s k) [
        | yes z ↦ rw z Q.at
        | no z ↦ Q.beside e s (omega arith) (λ a b. z b) ∙ P.at s (omega arith)
      ];
      beside = λ d t h g. Q.beside d t h (λ a b. g a (omega arith)) ∙ P.beside d t h (λ a b. g a (omega arith));
    }

pub shares_all : (n e k : ℕ) (v row new : List ℕ) → k ≡ n → PutShares n e k v row new → PutEntry n e v row new
shares_all n e k v row new l P =
    record { at = λ s h. P.at s (omega arith); beside = λ d s g h. P.beside d s h (λ a b. g a) }

-- ---- the last columns, from the first of them on

pub record PutFrom (n columns e : ℕ) (bytes row new : List ℕ) : Type 0 where
  pub at : (d s : ℕ) → e ≤ d → d < columns → s < n → byte_of n new d s ≡ get_or bytes ((columns - 1 - d) * n + s) 0
  pub beside : (d s : ℕ) → (e ≤ d → d < columns → ⊥) → s < n → byte_of n new d s ≡ byte_of n row d s

pub from_none : (n columns : ℕ) (bytes row : List ℕ) → PutFrom n columns columns bytes row row
from_none n columns bytes row = record { at = λ d s h g. absurd (omega arith); beside = λ d s h g. refl }

pub from_next : (n columns e p : ℕ) (bytes row new next : List ℕ) → e < columns → p ≡ (columns - 1 - e) * n
    → PutFrom n columns (suc e) bytes row new → PutEntry n e (take (p + n - p) (drop p bytes)) new next → PutFrom n columns e bytes row next
from_next n columns e p bytes row new next h q P Q =
    record {
      at = λ d s g f t. elim (ℕ_discrete d e) [
        | yes z ↦ rw z (Q.at s t ∙ lent_at n p bytes s t ∙ ap (λ (x : ℕ). get_or bytes (x + s) 0) q)
        | no z ↦ Q.beside d s z t ∙ P.at d s (omega arith) f t
      ];
      beside = λ d s g t.
          let a : d ≡ e → ⊥ = λ z. g (omega arith) (omega arith) in
          Q.beside d s a t ∙ P.beside d s (λ y z. g (omega arith) z) t;
    }

pub from_all : (n columns e : ℕ) (bytes row new : List ℕ) → e ≡ 0 → PutFrom n columns e bytes row new → PutBytes n columns bytes row new
from_all n columns e bytes row new z P =
    record {
      at = λ d s g t. P.at d s (omega arith) g t;
      beyond = λ d s g t. P.beside d s (λ a b. omega arith) t;
    }
