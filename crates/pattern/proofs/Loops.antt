-- What the code reads off the slots is what the definitions say: tests and the last slot; and what one turn of the loops over slots does.
-- Assumes nothing.
use mathlib.Core.Bool.{Bool, true, false, ◌&&◌}
use mathlib.Core.List.{List, [], ◌∷◌}
use mathlib.Core.Path.{◌≡◌, refl, sym, ap, ◌∙◌}
use mir.Val.{bool_byte}
use Prim.Native.Nat.{ℕ, suc, ◌<◌, ◌≤◌, ◌+◌, ◌-◌}
use native.Mathlib.Omega.{arith}
use lib.Dec.{ltb, leb, eqb}
use lib.ListN.{length, get_or, drop, drop_of_length-le}
use lib.Seq.{drop-cons}
use Rattle.std.specs.List.{slice_get, list_all}
use Rattle.std.specs.Option.{unwrap_or}
use Rattle.field.specs.Field.{pick}
use Rattle.pattern.specs.Pivots.{before, last, ascends, zeros}

pub zeros_all : (s : List ℕ) → list_all (λ x. eqb x 0) s ≡ zeros s
unfolding zeros
zeros_all [] = refl
zeros_all (x ∷ xs) = ap (λ (b : Bool). eqb x 0 && b) (zeros_all xs)

-- the last of a list
pub last_slot : (l : List ℕ) → unwrap_or (slice_get l (length l - 1)) 0 ≡ last l
unfolding last
last_slot [] = refl
last_slot (p ∷ []) = refl
last_slot (p ∷ q ∷ ps) = let e : suc (suc (length ps)) - 1 ≡ suc (suc (length ps) - 1) = omega arith in rw e (last_slot (q ∷ ps))

byte_pick : (t : Bool) → pick t 1 0 ≡ bool_byte t
byte_pick true = refl
byte_pick false = refl

byte_small : (t : Bool) → bool_byte t ≤ 1
byte_small true = omega arith
byte_small false = omega arith

module _ (s : List ℕ) (i : ℕ) where
  next : i < length s → drop i s ≡ get_or s i 0 ∷ drop (i + 1) s
  next l = let e : suc i ≡ i + 1 = omega arith in drop-cons s i 0 l ∙ ap (λ (k : ℕ). get_or s i 0 ∷ drop k s) e

  pub before_turn : (j : ℕ) → i < length s → before (drop i s) j ≡ pick (ltb (get_or s i 0) j) 1 0 + before (drop (i + 1) s) j
  unfolding before
  before_turn j l = rw (next l)

  pub before_done : (j : ℕ) → length s ≤ i → before (drop i s) j ≡ 0
  unfolding before
  before_done j l = rw (drop_of_length-le s l)

  -- a turn of the count: b is 1 where slot i stands before j, and else 0
  pub count_turn : (j k b : ℕ) → i < length s → k ≤ i → k + before (drop i s) j ≡ before s j → b ≡ bool_byte (ltb (get_or s i 0) j)
      → (k + b ≤ i + 1) × (k + b + before (drop (i + 1) s) j ≡ before s j)
  count_turn j k b l h e d =
      let p : pick (ltb (get_or s i 0) j) 1 0 ≡ b = byte_pick (ltb (get_or s i 0) j) ∙ sym d in
      let m : b ≤ 1 = rw d (byte_small (ltb (get_or s i 0) j)) in
      (omega (arith, h, m), omega (arith, e, before_turn j l, p))

  pub ascends_turn : (low high : ℕ) → i < length s
      → ascends low high (drop i s) ≡ (ltb low (get_or s i 0) && leb (get_or s i 0) high) && ascends (get_or s i 0) high (drop (i + 1) s)
  unfolding ascends
  ascends_turn low high l = rw (next l)

  pub ascends_done : (low high : ℕ) → length s ≤ i → ascends low high (drop i s) ≡ true
  unfolding ascends
  ascends_done low high l = rw (drop_of_length-le s l)
