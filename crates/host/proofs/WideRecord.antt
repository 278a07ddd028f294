-- The wide record in words: ten words written one by one, and the slots behind them; a record written and read again; what a call leaves of the
-- words.
-- Assumes nothing.
use mathlib.Core.Bool.{Bool, true, false, ◌&&◌}
use mathlib.Core.List.{List, [], ◌∷◌, ◌++◌, append-nil}
use mathlib.Core.Path.{◌≡◌, refl, sym, ap, ◌∙◌}
use Prim.Native.Nat.{ℕ, zero, suc, ◌+◌, ◌-◌, ◌≤◌, ◌<◌}
use native.Mathlib.Omega.{arith}
use borrow.Author.Tests.{eq-eqb, ne_eqb, le-leb, lt-leb, eqb-true, ltb-true, ltb-false}
use lib.Dec.{eqb, leb, ltb}
use lib.ListN.{length, get_or, take, drop, length-append, length-drop, length-map, drop_of_length-le, get_or-map}
use lib.Seq.{take_at, drop_at, get_or-take, get_or-drop, length-take-le}
use Rattle.sharing.specs.Run.{tab}
use Rattle.sharing.proofs.Loops.{rest}
use Rattle.sharing.specs.Lists.{Below}
use Rattle.course.proofs.Within.{both}
use Rattle.course.specs.declared.Step.TheVariants.{Mix, Check, Scale, Clear, Open, Lift}
use Rattle.pattern.specs.declared.Pivots.{Pivots}
use Rattle.pattern.specs.declared.WideOrder.{WideOrder}
use Rattle.pattern.specs.declared.WidePlace.{WidePlace}
use Rattle.pattern.specs.declared.WidePlace.TheVariants.{At, Short, Done}
use Rattle.pattern.specs.declared.WideProgress.{WideProgress}
use Rattle.pattern.specs.Pivots.{zeros, listed, unused}
use Rattle.pattern.specs.Next.{kept, stands, placed}
use Rattle.pattern.proofs.Ascending.{not_over}
use Rattle.pattern.proofs.Standing.{Kept, kept-says}
use Rattle.host.specs.declared.words.Spot.{Spot}
use Rattle.host.specs.Words.{place_of, step_spot, without}
use Rattle.host.specs.WideWords.{widened, wide_place_of, wide_spot_of, byte_of, bytes_of, wide_of, head_of, wide_words_of}

pub head_length : (o : WideOrder) (s : Spot) (mask nonzero found : ℕ) → length (head_of o s mask nonzero found) ≡ 10
unfolding head_of
head_length o s mask nonzero found = refl

-- a list whose first k were written, and then all behind them
module _ (k : ℕ) (h w : List ℕ) (long : length h ≡ k) where
  abbrev first : List ℕ
  first = h ++ drop k w

  pub behind-length : length (take (length first - k) (drop k first)) ≡ length w - k
  behind-length = ap length (rest k first ∙ drop_at h (drop k w) k long) ∙ length-drop k w

  pub two_parts : (c : List ℕ) → take k first ++ (c ++ drop (length first - k) (drop k first)) ≡ h ++ c
  two_parts c =
      let none : drop (length first - k) (drop k w) ≡ [] = drop_of_length-le (drop k w) {i = length first - k} (omega (arith, length-append h (drop k w), long)) in
      rw (take_at h (drop k w) k long, drop_at h (drop k w) k long, none, append-nil c)

-- a list, place by place
pub tab-own : (s : List ℕ) → tab (length s) (λ i. get_or s i 0) ≡ s
tab-own [] = refl
tab-own (x ∷ s) = ap {B = List ℕ} (λ t. x ∷ t) (tab-own s)

-- the place of three words: 8 alone is short, and carries no j and no k
module _ (step j k : ℕ) where
  pub is_short : step ≡ 8 → j ≡ 0 → k ≡ 0 → Short ≡ wide_place_of step j k
  unfolding wide_place_of
  is_short a b c = rw (eq-eqb _ _ a, eq-eqb _ _ b, eq-eqb _ _ c)

  pub not_8 : (step ≡ 8 → ⊥) → widened (place_of step j k) ≡ wide_place_of step j k
  unfolding wide_place_of
  not_8 h = rw (ne_eqb _ _ h)

  pub not_short_j : step ≡ 8 → (j ≡ 0 → ⊥) → widened (place_of step j k) ≡ wide_place_of step j k
  unfolding wide_place_of
  not_short_j a h = rw (eq-eqb _ _ a, ne_eqb _ _ h)

  pub not_short_k : step ≡ 8 → j ≡ 0 → (k ≡ 0 → ⊥) → widened (place_of step j k) ≡ wide_place_of step j k
  unfolding wide_place_of
  not_short_k a b h = rw (eq-eqb _ _ a, eq-eqb _ _ b, ne_eqb _ _ h)

-- a place written and read again is the same
wide_place_again : (p : WidePlace) → wide_place_of (wide_spot_of p).step (wide_spot_of p).j (wide_spot_of p).k ≡ p
unfolding wide_place_of wide_spot_of step_spot widened place_of without
wide_place_again (At (Mix j k)) = refl
wide_place_again (At (Check j)) = refl
wide_place_again (At (Scale j)) = refl
wide_place_again (At (Clear j k)) = refl
wide_place_again (At (Open j)) = refl
wide_place_again (At (Lift j)) = refl
wide_place_again Short = refl
wide_place_again Done = refl

-- and so are bytes
bytes_again : (s : List ℕ) → Below 256 s → bytes_of s ≡ s
unfolding byte_of
bytes_again [] h = refl
bytes_again (x ∷ s) h =
    let e : leb x 255 ≡ true = le-leb x 255 (omega (arith, h.at 0)) in
    rw e (ap {B = List ℕ} (λ t. x ∷ t) (bytes_again s record { at = λ i. h.at (suc i) }))

-- and so is a record whose slots are bytes
pub wide_again : (p : WideProgress) → Below 256 p.pivots.columns → wide_of (wide_words_of p) ≡ p
unfolding wide_of wide_words_of head_of
wide_again p h = rw (wide_place_again p.place, bytes_again _ h)

-- a slot that is no byte is refused by 10, whatever the other words say: of kept pivots no slot is above the columns
zeros-at : (s : List ℕ) → zeros s ≡ true → (i : ℕ) → get_or s i 0 ≡ 0
unfolding zeros
zeros-at [] h i = refl
zeros-at (x ∷ s) h zero = eqb-true x 0 (both (eqb x 0) (zeros s) h).0
zeros-at (x ∷ s) h (suc i) = zeros-at s (both (eqb x 0) (zeros s) h).1 i

module _ (o : WideOrder) (v : Pivots) (h : kept o v ≡ true) (few : v.found ≤ length v.columns) where
  not_above : (i : ℕ) → get_or v.columns i 0 ≤ o.columns
  not_above i = by (ltb i v.found) refl
    where
      k : Kept o v
      k = kept-says o v h

      by : (t : Bool) → ltb i v.found ≡ t → get_or v.columns i 0 ≤ o.columns
      by true e =
          let l = ltb-true i v.found e in
          rw (← get_or-take v.found v.columns i 0 l)
          (not_over o.columns 0 (listed v) k.rise i (rw (length-take-le v.found v.columns few) l))
      by false e =
          let there : v.found + (i - v.found) ≡ i = omega (arith, ltb-false i v.found e) in
          let none : get_or v.columns (v.found + (i - v.found)) 0 ≡ 0 =
          sym (get_or-drop v.found v.columns (i - v.found) 0) ∙ zeros-at (unused v) k.spare (i - v.found) in
          omega (arith, rw there at none)

byte_of_large : (word : ℕ) → 255 < word → byte_of word ≡ 255
unfolding byte_of
byte_of_large word h = rw (lt-leb word 255 h)

module _ (w : List ℕ) (long : length w ≡ 106) (i : ℕ) (large : 255 < get_or w (10 + i) 0) where
  slot_is : get_or (bytes_of (drop 10 w)) i 0 ≡ 255
  unfolding byte_of
  slot_is =
      get_or-map byte_of (drop 10 w) i 0
      ∙ ap byte_of (get_or-drop 10 w i 0)
      ∙ byte_of_large _ large

  pub slot_refused : get_or w 2 0 ≤ 96 → get_or w 3 0 ≤ 144 → placed (wide_of w) ≡ false
  unfolding placed wide_of
  slot_refused rows columns = by (kept (wide_of w).order (wide_of w).pivots) refl
    where
      by : (t : Bool) → kept (wide_of w).order (wide_of w).pivots ≡ t
          → (t && stands (wide_of w).order (listed (wide_of w).pivots) (wide_of w).place) ≡ false
      by false e = refl
      by true e =
          let many : length (bytes_of (drop 10 w)) ≡ 96 = length-map (drop 10 w) byte_of ∙ length-drop 10 w ∙ omega arith in
          absurd (omega (arith, slot_is, not_above _ _ e (omega (arith, (kept-says _ _ e).few, many)) i))
