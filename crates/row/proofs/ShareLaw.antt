-- Product, share by share: its sums over the pairs leave in share s, modulo q, what plain exclusive or leaves, in whatever order.
-- Assumes nothing.
use mathlib.Core.Path.{◌≡◌, refl, sym, ap, ◌∙◌}
use Prim.Native.Nat.{ℕ, zero, suc, ◌+◌, ◌-◌, ◌%◌, ◌<◌, ◌≤◌}
use mathlib.Core.List.{List}
use native.Mathlib.Omega.{arith}
use native.Mathlib.Decide.{ℕ_discrete}
use native.Mathlib.Nat.{mod-mod}
use lib.Bits.{bit_xor, xor_comm}
use lib.ListN.{length, get_or, set, length-set}
use lib.Seq.{get_or-set_same, get_or-set_other}
use Rattle.field.specs.Field.{Ring, Binary, field_of}
use Rattle.field.proofs.Fields.{field_of_lem, sub-add, add-xor, xor_same}
use Rattle.field.proofs.Xor.{xor_assoc}
use Rattle.sharing.specs.Run.{run, before, pairs, pair_turn, pairs_of, over_pairs, tab}
use Rattle.sharing.specs.Rules.{add_at, sub_at, product_turn, product_over}
use Rattle.sharing.proofs.Pairs.{run_holds, pair_lt, tab-length, tab-at}
use Rattle.row.specs.Code.Shares.{own_draws, pair_sum, share_sum}
use Rattle.row.proofs.OneTurn.{run_keeps, run_one}

-- ---- the order in which numbers join

abbrev joins : (ℕ → ℕ) → ℕ → ℕ → ℕ
joins g m x = run (λ i x. bit_xor x (g i)) m x

joins-xor : (g : ℕ → ℕ) (m x y : ℕ) → joins g m (bit_xor x y) ≡ bit_xor (joins g m x) y
unfolding run
joins-xor g zero x y = refl
joins-xor g (suc m) x y =
    ap (λ (k : ℕ). bit_xor k (g m)) (joins-xor g m x y)
    ∙ xor_assoc (joins g m x) y (g m) ∙ ap (bit_xor (joins g m x)) (xor_comm y (g m)) ∙ sym (xor_assoc (joins g m x) (g m) y)

-- the draws last, as Product has them
draws-last : (n : ℕ) (Z : ℕ → ℕ) (P : ℕ → ℕ → ℕ) (s : ℕ)
    → share_sum n Z P s ≡ joins (λ v. Z (before n s + v)) (n - suc s) (joins (pair_sum n Z P s) s (P s s))
unfolding share_sum own_draws
draws-last n Z P s =
    let d : ℕ = joins (λ v. Z (before n s + v)) (n - suc s) 0 in
    let p : ℕ = joins (pair_sum n Z P s) s (P s s) in
    ap (joins (pair_sum n Z P s) s) (xor_comm d (P s s)) ∙ joins-xor (pair_sum n Z P s) s (P s s) d ∙ xor_comm p d
    ∙ sym (joins-xor (λ v. Z (before n s + v)) (n - suc s) 0 p)

module _ {f : ℕ} (B : Binary f) (n : ℕ) (Z Z' : ℕ → ℕ) (P : ℕ → ℕ → ℕ) (hz : (k : ℕ) → k < pairs n → Z' k % (field_of f).q ≡ Z k % (field_of f).q) (s : ℕ) (hs : s < n) where
  R : Ring (field_of f)
  R = (field_of_lem f).ring

  -- exclusive or, and the field's sum
  add_same : (a b c d : ℕ) → a % (field_of f).q ≡ c % (field_of f).q → b % (field_of f).q ≡ d % (field_of f).q → bit_xor a b % (field_of f).q ≡ (field_of f).add c d % (field_of f).q
  add_same a b c d x y =
      xor_same B a b c d x y ∙ sym (mod-mod (bit_xor c d) (field_of f).q) ∙ ap (λ (z : ℕ). z % (field_of f).q) (sym (add-xor B c d))

  -- n shares, of which share s leaves what x does
  record Leaves (x : ℕ) (y : List ℕ) : Type 0 where
    size : length y ≡ n
    at : x % (field_of f).q ≡ get_or y s 0 % (field_of f).q

  set_keeps : {x : ℕ} (i v : ℕ) (y : List ℕ) → (s ≡ i → ⊥) → Leaves x y → Leaves x (set y i v)
  set_keeps i v y e H = record { size = length-set y i v ∙ H.size; at = rw (get_or-set_other y i s v 0 e) H.at }

  add_hits : {x : ℕ} (i v span : ℕ) (y : List ℕ) → i ≡ s → v % (field_of f).q ≡ span % (field_of f).q → Leaves x y → Leaves (bit_xor x v) (add_at (field_of f) i span y)
  add_hits {x} i v span y e h H =
      record {
        size = length-set y i _ ∙ H.size;
        at = rw (e, get_or-set_same y s ((field_of f).add (get_or y s 0) span) 0 (omega (arith, H.size))) (add_same x v (get_or y s 0) span H.at h);
      }

  sub_hits : {x : ℕ} (i v span : ℕ) (y : List ℕ) → i ≡ s → v % (field_of f).q ≡ span % (field_of f).q → Leaves x y → Leaves (bit_xor x v) (sub_at (field_of f) i span y)
  sub_hits i v span y e h H = rw (sub-add B (get_or y i 0) span) (add_hits i v span y e h H)

  turn_keeps : (k i j : ℕ) → (s ≡ i → ⊥) → (s ≡ j → ⊥) → {x : ℕ} (y : List ℕ) → Leaves x y → Leaves x (product_turn (field_of f) Z P k i j y)
  unfolding product_turn
  turn_keeps k i j p q y H = set_keeps j _ _ q (set_keeps i _ y p H)

  -- a draw may be replaced by what leaves the same
  pair_same : (i k : ℕ) → k < pairs n → bit_xor (bit_xor (Z' k) (P i s)) (P s i) % (field_of f).q ≡ (field_of f).add ((field_of f).add (P i s) (Z k)) (P s i) % (field_of f).q
  pair_same i k hk =
      add_same (bit_xor (Z' k) (P i s)) (P s i) ((field_of f).add (P i s) (Z k)) (P s i)
      (add_same (Z' k) (P i s) (Z k) (P i s) (hz k hk) refl ∙ ap (λ (y : ℕ). y % (field_of f).q) (R.add_comm (Z k) (P i s)))
      refl

  -- one of the pairs of i < s ends at s
  row-joins : (i : ℕ) → i < s → {x : ℕ} (y : List ℕ) → Leaves x y → Leaves (bit_xor x (pair_sum n Z' P s i)) (pairs_of (product_turn (field_of f) Z P) n i y)
  unfolding product_turn pair_sum
  row-joins i hi {x} y H =
      let k : ℕ = before n i + (s - suc i) in
      let e : i + 1 + (s - suc i) ≡ s = omega arith in
      run_one (Leaves x) (Leaves (bit_xor x (pair_sum n Z' P s i))) (pair_turn (product_turn (field_of f) Z P) n i) (n - suc i) (s - suc i) (omega arith)
      (λ v hv e y H. turn_keeps (before n i + v) i (i + 1 + v) (λ q. omega arith) (λ q. omega arith) y H)
      (λ v hv e y H. turn_keeps (before n i + v) i (i + 1 + v) (λ q. omega arith) (λ q. omega arith) y H)
      (λ y H. rw e (add_hits s (pair_sum n Z' P s i) _ _ refl (pair_same i k (pair_lt n i (s - suc i) (omega arith) (omega arith))) (set_keeps i _ y (λ q. omega arith) H)))
      y H

  -- the pairs of s itself take their draws from it
  row-draws : {x : ℕ} (y : List ℕ) → Leaves x y → Leaves (joins (λ v. Z' (before n s + v)) (n - suc s) x) (pairs_of (product_turn (field_of f) Z P) n s y)
  unfolding product_turn run
  row-draws {x} y H =
      run_holds (λ v y. Leaves (joins (λ v. Z' (before n s + v)) v x) y) (pair_turn (product_turn (field_of f) Z P) n s) (n - suc s)
      (λ v hv y H. set_keeps (s + 1 + v) _ _ (λ q. omega arith)
      (sub_hits s (Z' (before n s + v)) (Z (before n s + v)) y refl (hz (before n s + v) (pair_lt n s v hs hv)) H))
      y H

  -- and those of i > s leave it alone
  row_keeps : (i : ℕ) → s < i → {x : ℕ} (y : List ℕ) → Leaves x y → Leaves x (pairs_of (product_turn (field_of f) Z P) n i y)
  row_keeps i hi {x} y H =
      run_keeps (Leaves x) (pair_turn (product_turn (field_of f) Z P) n i) (n - suc i)
      (λ v hv y H. turn_keeps (before n i + v) i (i + 1 + v) (λ q. omega arith) (λ q. omega arith) y H) y H

  -- after the pairs of i: share s has what joins it of the shares before i, and once i is past s, its draws too
  pub share_law : share_sum n Z' P s % (field_of f).q ≡ get_or (product_over (field_of f) Z P n) s 0 % (field_of f).q
  unfolding product_over over_pairs run
  share_law =
      let A : ℕ → ℕ = λ i. joins (pair_sum n Z' P s) i (P s s) in
      let E : ℕ = joins (λ v. Z' (before n s + v)) (n - suc s) (A s) in
      ap (λ (x : ℕ). x % (field_of f).q) (draws-last n Z' P s)
      ∙ ((run_holds (λ i y. (i ≤ s → Leaves (A i) y) × (s < i → Leaves E y)) (pairs_of (product_turn (field_of f) Z P) n) n
      (λ i hi y H. (
        λ g. row-joins i g y (H.0 (omega arith)),
        λ g. elim (ℕ_discrete i s) [
          | yes e ↦ let a : A s ≡ A i = ap A (sym e) in rw e (row-draws y (rw a (H.0 (omega arith))))
          | no e ↦ row_keeps i (omega arith) y (H.1 (omega arith))
        ],
      ))
      (tab n (λ i. P i i))
      (λ g. record { size = tab-length n _; at = ap (λ (x : ℕ). x % (field_of f).q) (sym (tab-at n (λ i. P i i) s hs)) }, λ g. absurd (omega arith))).1 hs).at
