-- Where the bits that the bytes have are below 16, also those in the lanes of a long list, no entry is too large in either field.
-- Assumes nothing.
use mathlib.Core.Bool.{Bool, true, false}
use mathlib.Core.List.{List}
use mathlib.Core.Path.{◌≡◌, refl, ◌∙◌}
use Prim.Native.Nat.{ℕ, zero, suc, ◌+◌, ◌-◌, ◌*◌, ◌/◌, ◌%◌, ◌<◌, ◌≤◌}
use native.Mathlib.Numerals.{add-one}
use native.Mathlib.Omega.{arith}
use native.Mathlib.Decide.{ℕ_discrete, dec_lt}
use lib.Bits.{bit_or, or_add_and, and_le_l, and_le_r, or_shr}
use lib.Dec.{eqb}
use lib.ListN.{length, get_or, length-set, get_or-eq_default}
use lib.Seq.{get_or-set_same, get_or-set_other}
use borrow.Author.Tests.{lt-leb}
use Rattle.field.specs.Field.{F16, F256, field_of, pick}
use Rattle.sharing.specs.Run.{run}
use Rattle.sharing.specs.Lists.{Below}
use Rattle.sharing.proofs.Pairs.{run_holds}
use Rattle.verdict.specs.Refusals.{first_place, too_large}
use Rattle.verdict.specs.Code.Scan.{some_bits, column_bits, lane_turn, block_bits, blocks_bits}
use Rattle.verdict.proofs.Scan.{Passed, scan_start, scan_next, scan-end}

or-none : (a b : ℕ) → bit_or a b ≡ 0 → (a ≡ 0) × (b ≡ 0)
or-none a b e = (omega (arith, or_add_and a b, and_le_r a b), omega (arith, or_add_and a b, and_le_l a b))

-- below 16 together, below 16 each
or_small : (a b : ℕ) → bit_or a b < 16 → (a < 16) × (b < 16)
or_small a b h =
    let e : bit_or a b / 16 ≡ bit_or (a / 16) (b / 16) = or_shr a b 4 in
    let z = or-none (a / 16) (b / 16) (omega arith) in
    (omega (arith, z.0), omega (arith, z.1))

run_small : (s : List ℕ) (n : ℕ) (g : ℕ → ℕ) → run (λ i v. bit_or v (g i)) n 0 < 16 → (i : ℕ) → i < n → g i < 16
run_small s n g e =
    run_holds (λ k v. v < 16 → (i : ℕ) → i < k → g i < 16) (λ i v. bit_or v (g i)) n
    (λ k h v H z i l. elim (ℕ_discrete i k) [
      | yes e ↦ rw e (or_small v (g k) z).1
      | no e ↦ H (or_small v (g k) z).0 i (omega arith)
    ])
    0 (λ z i l. absurd (omega arith)) e

pub below : (s : List ℕ) → ((i : ℕ) → i < length s → get_or s i 0 < 16) → Below 16 s
below s h =
    record {
      at = λ i. elim (dec_lt i (length s)) [
        | yes l ↦ h i l
        | no l ↦ rw (get_or-eq_default s 0 {n = i} (omega arith)) (omega arith)
      ];
    }

pub small : (s : List ℕ) → some_bits s < 16 → (i : ℕ) → i < length s → get_or s i 0 < 16
unfolding some_bits
small s e = run_small s (length s) (λ i. get_or s i 0) e

pub some_small : (s : List ℕ) → some_bits s < 16 → Below 16 s
some_small s e = below s (small s e)

-- ---- by blocks

module _ (s : List ℕ) (at : ℕ) where
  column-small : column_bits s at < 16 → (i : ℕ) → i < 8 → get_or s (at + i * 16) 0 < 16
  unfolding column_bits
  column-small e = run_small s 8 (λ i. get_or s (at + i * 16) 0) e

-- where the lanes are small in the end they were so before, and the bytes from `from` to `to` are
pub record Looked (s : List ℕ) (from to : ℕ) (old new : List ℕ) : Type 0 where
  pub size : length new ≡ length old
  pub before : Below 16 new → Below 16 old
  pub bytes : Below 16 new → (i : ℕ) → from ≤ i → i < to → get_or s i 0 < 16

module _ (s : List ℕ) (at : ℕ) (old : List ℕ) (l : length old ≡ 16) where
  -- after q lanes
  record Lanes (q : ℕ) (new : List ℕ) : Type 0 where
    size : length new ≡ length old
    each : (k : ℕ) → get_or new k 0 < 16 → (get_or old k 0 < 16) × (k < q → column_bits s (at + k) < 16)

  lane-next : (q : ℕ) → q < 16 → (w : List ℕ) → Lanes q w → Lanes (suc q) (lane_turn s at q w)
  lane-next q h w L =
      record {
        size = length-set w q _ ∙ L.size;
        each = λ k. elim (ℕ_discrete k q) [
          | yes e ↦ λ z.
              let b : bit_or (get_or w q 0) (column_bits s (at + q)) < 16 = rw (e, get_or-set_same w q (bit_or (get_or w q 0) (column_bits s (at + q))) 0 (omega (arith, L.size))) at z in
              let t = or_small (get_or w q 0) (column_bits s (at + q)) b in
              rw e ((L.each q t.0).0, λ g. t.1)
          | no e ↦ λ z.
              let t = L.each k (rw (get_or-set_other w q k (bit_or (get_or w q 0) (column_bits s (at + q))) 0 e) at z) in
              (t.0, λ g. t.1 (omega arith))
        ];
      }

  lanes : Lanes 16 (run (lane_turn s at) 16 old)
  lanes = run_holds Lanes (lane_turn s at) 16 lane-next old (record { size = refl; each = λ k z. (z, λ g. absurd (omega arith)) })

  pub block_looked : Looked s at (at + 128) old (block_bits s at old)
  unfolding block_bits
  block_looked =
      record {
        size = lanes.size;
        before = λ B. record { at = λ k. (lanes.each k (B.at k)).0 };
        bytes = λ B i f t.
            let k : ℕ = (i - at) % 16 in
            let e : at + k + (i - at) / 16 * 16 ≡ i = omega arith in
            rw e at (column-small s (at + k) ((lanes.each k (B.at k)).1 (omega arith)) ((i - at) / 16) (omega arith));
      }

looked_then : {s : List ℕ} {from to more : ℕ} {old new next : List ℕ} → Looked s from to old new → Looked s to more new next → Looked s from more old next
looked_then {s} {from} {to} {more} a b =
    record {
      size = b.size ∙ a.size;
      before = λ B. a.before (b.before B);
      bytes = λ B i f t. elim (dec_lt i to) [
        | yes l ↦ a.bytes (b.before B) i f l
        | no l ↦ b.bytes B i (omega arith) t
      ];
    }

pub blocks_looked : (s : List ℕ) (blocks : ℕ) (old : List ℕ) → length old ≡ 16 → Looked s 0 (blocks * 128) old (blocks_bits s blocks old)
unfolding blocks_bits
blocks_looked s blocks old l =
    run_holds (λ u w. Looked s 0 (u * 128) old w) (λ u. block_bits s (u * 128)) blocks
    (λ u h w L.
    let e : u * 128 + 128 ≡ suc u * 128 = omega arith in
    looked_then L (rw e at (block_looked s (u * 128) w (L.size ∙ l))))
    old (record { size = refl; before = λ B. B; bytes = λ B i f t. absurd (omega arith) })

-- the last 128 bytes, and then the blocks from the start
pub all_looked : (s old mid new : List ℕ) → length old ≡ 16 → 128 ≤ length s → mid ≡ block_bits s (length s - 128) old → new ≡ blocks_bits s (length s / 128) mid
    → some_bits new < 16 → Below 16 s
all_looked s old mid new l h em en z =
    let a : Looked s (length s - 128) (length s - 128 + 128) old mid = rw em (block_looked s (length s - 128) old l) in
    let b : Looked s 0 (length s / 128 * 128) mid new = rw en (blocks_looked s (length s / 128) mid (a.size ∙ l)) in
    let B : Below 16 new = some_small new z in
    below s
    (λ i g. elim (dec_lt i (length s / 128 * 128)) [
      | yes q ↦ b.bytes B i (omega arith) q
      | no q ↦ a.bytes (b.before B) i (omega arith) (omega arith)
    ])

fits : (t : Bool) (x : ℕ) → x < 16 → x < (pick t F16 F256).q
unfolding F16 F256
fits true x h = h
fits false x h = omega arith

pub none_too_large-below : (f : ℕ) (s : List ℕ) → Below 16 s → length s ≡ first_place (too_large f) s
unfolding too_large field_of
none_too_large-below f s B =
    scan-end (too_large f) s (length s)
    (upto (length s) (omega arith))
    (omega arith)
  where
    upto : (k : ℕ) → k ≤ length s → Passed (too_large f) s k
    upto zero h = scan_start (too_large f) s
    upto (suc k) h = rw (← add-one) (scan_next (too_large f) s k (upto k (omega arith)) h (lt-leb _ _ (fits (eqb f 16) (get_or s k 0) (B.at k))))

pub none_too_large : (f : ℕ) (s : List ℕ) → some_bits s < 16 → length s ≡ first_place (too_large f) s
none_too_large f s e = none_too_large-below f s (some_small s e)
