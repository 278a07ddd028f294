-- What `gather` leaves at each byte.
-- Assumes nothing.
use mathlib.Core.Path.{◌≡◌, refl, sym, ap, ◌∙◌}
use Prim.Native.Nat.{ℕ, suc, ◌+◌, ◌-◌, ◌*◌, ◌<◌, ◌≤◌}
use mathlib.Core.List.{List, ◌++◌}
use native.Mathlib.Omega.{arith}
use native.Mathlib.Decide.{ℕ_discrete}
use lib.ListN.{length, get_or, set, take, drop, length-set}
use borrow.Rule.Slice.PartMut.{put_mid, post_of}
use Rattle.std.proofs.lemmas.List.{take-append-drop, set-append_left, set-append_right}
use lib.Seq.{get_or-set_same, get_or-set_other, length-take-le}
use Rattle.sharing.proofs.Pairs.{run_holds}
use Rattle.row.proofs.Places.{place_in}
use Rattle.row.specs.Code.Gather.{gathered_byte, block_turn, gather_block, gather_all}

-- ---- a part of a list that is written place by place

pub part_none : (a k : ℕ) (xs : List ℕ) → put_mid a k xs (take k (drop a xs)) ≡ xs
part_none a k xs = ap (λ (y : List ℕ). take a xs ++ y) (take-append-drop k (drop a xs)) ∙ take-append-drop a xs

pub part_next : (a k q v : ℕ) (xs ys : List ℕ) → a ≤ length xs → q < length ys → put_mid a k xs (set ys q v) ≡ set (put_mid a k xs ys) (a + q) v
part_next a k q v xs ys l h =
    let e : a + q - a ≡ q = omega arith in
    sym (set-append_right (take a xs) (ys ++ post_of a k xs) a (a + q) v (length-take-le a xs l) (omega arith)
    ∙ ap (λ (i : ℕ). take a xs ++ set (ys ++ post_of a k xs) i v) e ∙ ap (λ (y : List ℕ). take a xs ++ y) (set-append_left ys (post_of a k xs) q v h))

-- ---- the blocks

module _ (n l blocks span : ℕ) (c out : List ℕ) where
  -- after u blocks, and j bytes of the next one
  record Filled (u j : ℕ) (y : List ℕ) : Type 0 where
    size : length y ≡ length out
    done : (v q : ℕ) → v < u → q < l → get_or y (v * l + q) 0 ≡ gathered_byte n span c (v * l + q) q
    begun : (q : ℕ) → q < j → get_or y (u * l + q) 0 ≡ gathered_byte n span c (u * l + q) q

  -- a block is whole
  block : (u : ℕ) (y : List ℕ) → Filled u l y → Filled (suc u) 0 y
  block u y D =
      record {
        size = D.size;
        done = λ v q hv hq. elim (ℕ_discrete v u) [
          | yes z ↦ rw z (D.begun q hq)
          | no z ↦ D.done v q (omega arith) hq
        ];
        begun = λ q hq. absurd (omega arith);
      }

  module _ (room : blocks * l ≤ length out) where
    next : (u j : ℕ) → u < blocks → j < l → (y : List ℕ) → Filled u j y → Filled u (suc j) (set y (u * l + j) (gathered_byte n span c (u * l + j) j))
    next u j hu hj y D =
        record {
          size = length-set y (u * l + j) _ ∙ D.size;
          done = λ v q hv hq.
              get_or-set_other y (u * l + j) (v * l + q) _ 0 (λ z. omega (arith, place_in u l v q hv hq)) ∙ D.done v q hv hq;
          begun = λ q hq. elim (ℕ_discrete q j) [
            | yes z ↦ rw z (get_or-set_same y (u * l + j) _ 0 (omega (arith, D.size, room, place_in blocks l u j hu hj)))
            | no z ↦ get_or-set_other y (u * l + j) (u * l + q) _ 0 (λ e. z (omega arith)) ∙ D.begun q (omega arith)
          ];
        }

    all : Filled blocks 0 (gather_all n l blocks span c out)
    unfolding gather_all gather_block
    all =
        run_holds (λ (u : ℕ) (y : List ℕ). Filled u 0 y) (gather_block n l span c) blocks
        (λ u hu y D. block u _ (run_holds (λ (j : ℕ) (y : List ℕ). Filled u j y) (block_turn n span c (u * l)) l (λ j hj y D. next u j hu hj y D) y D))
        out
        (record { size = refl; done = λ v q hv hq. absurd (omega arith); begun = λ q hq. absurd (omega arith) })

    pub gather_at : (u q : ℕ) → u < blocks → q < l → get_or (gather_all n l blocks span c out) (u * l + q) 0 ≡ gathered_byte n span c (u * l + q) q
    gather_at = all.done
