-- What `gather` leaves of a byte is what the share comes to, modulo q: the pairs that are left out change nothing, and the others come in their order.
-- Assumes nothing.
use mathlib.Core.Path.{◌≡◌, refl, ap, ◌∙◌}
use mathlib.Core.Bool.{Bool, true, false}
use Prim.Native.Nat.{ℕ, suc, ◌+◌, ◌-◌, ◌*◌, ◌%◌, ◌<◌, ◌≤◌}
use mathlib.Core.List.{List}
use native.Mathlib.Omega.{arith}
use native.Mathlib.Decide.{dec_lt}
use native.Mathlib.Nat.{mod-mod}
use lib.Bits.{bit_xor, bit_and, and_mask, and_zero_r, xor_zero_r}
use lib.ListN.{get_or}
use borrow.Author.Tests.{le-leb, lt-leb}
use Rattle.field.specs.Field.{pick, Binary, field_of, F16, F256}
use Rattle.field.proofs.Fields.{xor_same}
use Rattle.sharing.specs.Run.{run, before}
use Rattle.sharing.proofs.Pairs.{run_holds}
use Rattle.row.specs.Code.Gather.{later, gather_turn, gathered_byte}
use Rattle.row.specs.Code.Shares.{own_draws, pair_sum, share_sum}

-- ---- a byte that chooses

pub later_chosen : (n d q : ℕ) → d ≤ q % n → later n d q ≡ 255
unfolding later
later_chosen n d q h = ap (λ (t : Bool). pick t 255 0) (le-leb d (q % n) h)

pub later-left : (n d q : ℕ) → q % n < d → later n d q ≡ 0
unfolding later
later-left n d q h = ap (λ (t : Bool). pick t 255 0) (lt-leb d (q % n) h)

bytes : (t : Bool) (a : ℕ) → bit_and a 255 % (pick t F16 F256).q ≡ a % (pick t F16 F256).q
unfolding F16 F256
bytes true a = ap (λ (x : ℕ). x % 16) (and_mask a 8) ∙ omega arith
bytes false a = ap (λ (x : ℕ). x % 256) (and_mask a 8) ∙ mod-mod a 256

module _ {f : ℕ} (B : Binary f) where
  -- a byte of ones chooses all of the other
  byte_same : (a : ℕ) → bit_and a 255 % (field_of f).q ≡ a % (field_of f).q
  byte_same a = rw B.is (bytes B.sixteen a)

  module _ (n span : ℕ) (c : List ℕ) (o q s : ℕ) (Z : ℕ → ℕ) (P : ℕ → ℕ → ℕ) (hs : s < n)
      (own : get_or c o 0 ≡ bit_xor (own_draws n Z s) (P s s))
      (first : (i : ℕ) → i < s → get_or c ((s - i) * span + o) 0 ≡ bit_xor (Z (before n i + (s - suc i))) (P i s))
      (second : (i : ℕ) → i < s → get_or c ((n - (s - i)) * span + o - (s - i)) 0 ≡ P s i)
      (share : q % n ≡ s)
    where
      -- the first j pairs
      sums : ℕ → ℕ
      sums j = run (λ i x. bit_xor x (pair_sum n Z P s i)) j (get_or c o 0)

      -- the first turns are left out, and turn n - 1 - s + j is pair j
      out : (i v : ℕ) → i < n - 1 - s → gather_turn n span c o q i v ≡ v
      unfolding gather_turn
      out i v h = rw (later-left n (n - 1 - i) q (omega arith), and_zero_r) (xor_zero_r v)

      taken : (i j v : ℕ) → j < s → i ≡ n - 1 - s + j → gather_turn n span c o q i v ≡ bit_xor v (bit_and (pair_sum n Z P s j) 255)
      unfolding gather_turn pair_sum
      taken i j v h e =
          let d : n - 1 - i ≡ s - j = omega arith in
          let g : i + 1 ≡ n - (s - j) = omega arith in
          rw (d, g, first j h, second j h, later_chosen n (s - j) q (omega arith)) refl

      turn : (i v : ℕ) → i < n - 1 → v % (field_of f).q ≡ sums (i - (n - 1 - s)) % (field_of f).q
          → gather_turn n span c o q i v % (field_of f).q ≡ sums (suc i - (n - 1 - s)) % (field_of f).q
      unfolding run sums
      turn i v h r = elim (dec_lt i (n - 1 - s)) [
        | yes b ↦
            let e : suc i - (n - 1 - s) ≡ i - (n - 1 - s) = omega arith in
            rw (out i v b, e) r
        | no b ↦
            let j : ℕ = i - (n - 1 - s) in
            let e : suc i - (n - 1 - s) ≡ suc j = omega arith in
            rw (taken i j v (omega arith) (omega arith), e) (xor_same B v _ _ _ r (byte_same (pair_sum n Z P s j)))
      ]

      pub gathered-sum : gathered_byte n span c o q % (field_of f).q ≡ share_sum n Z P s % (field_of f).q
      unfolding gathered_byte share_sum sums run
      gathered-sum =
          let e : n - 1 - (n - 1 - s) ≡ s = omega arith in
          let z : 0 - (n - 1 - s) ≡ 0 = omega arith in
          rw e at (run_holds (λ (i v : ℕ). v % (field_of f).q ≡ sums (i - (n - 1 - s)) % (field_of f).q) (gather_turn n span c o q) (n - 1)
          (λ i h v r. turn i v h r) (get_or c o 0) (rw z refl))
          ∙ ap (λ (v : ℕ). run (λ i x. bit_xor x (pair_sum n Z P s i)) s v % (field_of f).q) own
