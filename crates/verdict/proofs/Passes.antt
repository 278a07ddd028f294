-- Each check both ways: what a pass says, and what passes.
-- Assumes nothing.
use mathlib.Core.Bool.{Bool, true, false, not, ◌||◌, ◌&&◌, false≢true}
use mathlib.Core.List.{List, [], ◌∷◌}
use mathlib.Core.Logic.{◌⊎◌, inl, inr, ⊎_elim}
use mathlib.Core.Path.{◌≡◌, refl, sym, ap, ◌∙◌}
use Prim.Native.Nat.{ℕ, suc, ◌<◌, ◌≤◌}
use native.Mathlib.Decide.{dec_lt}
use native.Mathlib.Nat.{le_refl, le_of_eq, le_antisymm}
use native.Mathlib.Omega.{arith}
use lib.Dec.{eqb, ltb}
use lib.ListN.{length, take, get_or, get_or-eq_default}
use lib.Seq.{length-take-le, get_or-take}
use borrow.Author.Tests.{ltb-false, leb-false, eqb-true, eqb-false, not-false, le-ltb, lt-leb, eq-eqb, ne_eqb}
use Rattle.field.specs.Field.{draw, field_of}
use Rattle.field.proofs.Fields.{field_of_lem}
use Rattle.sharing.specs.Rules.{draw_at}
use Rattle.sharing.specs.Lists.{Below}
use Rattle.sharing.specs.Bounds.{most_rows}
use Rattle.verdict.specs.declared.Rows.{Rows}
use Rattle.verdict.specs.Told.{Told, passed, refuse, ◌or◌}
use Rattle.verdict.specs.Refusals.{differs, outside, first_place, any_place, too_large, zero_draw, no1, no2, no3, no4, no5, no6, no7, no8, no9, no14, no15, no21, numbers, buffers, exactly, at_least}
use Rattle.verdict.proofs.Told.{left, right, not_then}
use Rattle.verdict.proofs.Scan.{before-first}

infixl 20 ◌and◌
pub ◌and◌ : {a b : Told} → a ≡ passed → b ≡ passed → a or b ≡ passed
unfolding ◌or◌
x and y = rw (x, y)

pub unmet : (k : ℕ) {test : Bool} (d : List ℕ) → test ≡ false → refuse k test d ≡ passed
unmet k d e = rw e

-- ---- 1 to 3, and 21

known : (s t : Bool) → not s && not t ≡ false → (s ≡ true) ⊎ (t ≡ true)
known true t e = inl refl
known false t e = inr (not-false t e)

pub one_says : (f : ℕ) → no1 f ≡ passed → (f ≡ 16) ⊎ (f ≡ 256)
unfolding no1
one_says f e =
    ⊎_elim (λ h. inl (eqb-true f 16 h)) (λ h. inr (eqb-true f 256 h)) (known (eqb f 16) (eqb f 256) (not_then _ _ e))

pub one_passes : (f : ℕ) → (f ≡ 16) ⊎ (f ≡ 256) → no1 f ≡ passed
unfolding no1
one_passes f = ⊎_elim (λ (e : f ≡ 16). rw e) (λ (e : f ≡ 256). rw e)

neither : (s t : Bool) → s || t ≡ false → (s ≡ false) × (t ≡ false)
neither true t e = absurd (false≢true (sym e))
neither false t e = (refl, e)

module _ (low high x : ℕ) where
  pub inside : outside low high x ≡ false → (low ≤ x) × (x ≤ high)
  unfolding outside
  inside e = let w = neither (ltb x low) (ltb high x) e in (ltb-false x low w.0, ltb-false high x w.1)

  pub within : low ≤ x → x ≤ high → outside low high x ≡ false
  unfolding outside
  within a b = rw (le-ltb x low a, le-ltb high x b)

pub two-says : (n : ℕ) → no2 n ≡ passed → (2 ≤ n) × (n ≤ 4)
unfolding no2
two-says n e = inside 2 4 n (not_then _ _ e)

pub two_passes : (n : ℕ) → 2 ≤ n → n ≤ 4 → no2 n ≡ passed
unfolding no2
two_passes n a b = unmet 2 _ (within 2 4 n a b)

pub three-says : (m : ℕ) → no3 m ≡ passed → (1 ≤ m) × (m ≤ most_rows)
unfolding no3
three-says m e = inside 1 most_rows m (not_then _ _ e)

pub three_passes : (m : ℕ) → 1 ≤ m → m ≤ most_rows → no3 m ≡ passed
unfolding no3
three_passes m a b = unmet 3 _ (within 1 most_rows m a b)

pub twenty_one_says : (rows columns : ℕ) → no21 rows columns ≡ passed → (rows ≤ columns) × (columns ≤ 144)
unfolding no21
twenty_one_says rows columns e = inside rows 144 columns (not_then _ _ e)

pub twenty_one_passes : (rows columns : ℕ) → rows ≤ columns → columns ≤ 144 → no21 rows columns ≡ passed
unfolding no21
twenty_one_passes rows columns a b = unmet 21 _ (within rows 144 columns a b)

-- ---- 1 to 3 together

module _ (f n m : ℕ) where
  pub record Numbers : Type 0 where
    pub field : (f ≡ 16) ⊎ (f ≡ 256)
    pub two : 2 ≤ n
    pub four : n ≤ 4
    pub some : 1 ≤ m
    pub most : m ≤ most_rows

  pub numbered : numbers f n m ≡ passed → Numbers
  unfolding numbers
  numbered e =
      let b : no1 f or no2 n ≡ passed = left _ _ e in
      let shares = two-says n (right _ _ b) in
      let size = three-says m (right _ _ e) in
      record { field = one_says f (left _ _ b); two = shares.0; four = shares.1; some = size.0; most = size.1 }

  pub numbers_pass : Numbers → numbers f n m ≡ passed
  unfolding numbers
  numbers_pass z = one_passes f z.field and two_passes n z.two z.four and three_passes m z.some z.most

-- ---- 4, 5, 7, 8, 14 and 15: a length that must be the one wanted, or may be more, or less

module _ (k : ℕ) {long wanted : ℕ} (d : List ℕ) where
  pub same : refuse k (differs long wanted) d ≡ passed → long ≡ wanted
  same e = eqb-true long wanted (not-false _ (not_then _ _ e))

  pub right-length : long ≡ wanted → refuse k (differs long wanted) d ≡ passed
  right-length e = unmet k d (ap not (eq-eqb long wanted e))

  pub enough : refuse k (ltb long wanted) d ≡ passed → wanted ≤ long
  enough e = ltb-false long wanted (not_then _ _ e)

  pub long_enough : wanted ≤ long → refuse k (ltb long wanted) d ≡ passed
  long_enough h = unmet k d (le-ltb long wanted h)

-- ---- 6 and 9: no place meets the test

module _ (test : ℕ → Bool) where
  none_first : (xs : List ℕ) → ((k : ℕ) → k < length xs → test (get_or xs k 0) ≡ false) → first_place test xs ≡ length xs
  unfolding first_place
  none_first [] h = refl
  none_first (x ∷ xs) h = rw (h 0 (omega arith)) (ap suc (none_first xs (λ k l. h (suc k) (omega arith))))

  module _ (k : ℕ) (xs d : List ℕ) where
    no_place : ((i : ℕ) → i < length xs → test (get_or xs i 0) ≡ false) → refuse k (any_place test xs) d ≡ passed
    no_place h =
        unmet k d (ap (λ (i : ℕ). ltb i (length xs)) (none_first xs h) ∙ le-ltb (length xs) (length xs) (le_refl (length xs)))

    every_place : refuse k (any_place test xs) d ≡ passed → (i : ℕ) → i < length xs → test (get_or xs i 0) ≡ false
    every_place e i l =
        let all : length xs ≤ first_place test xs = ltb-false _ _ (not_then _ _ e) in
        before-first test xs i (omega arith)

-- 6 passes over a list of elements
pub six_passes : (f : ℕ) (rows : Rows) (t : List ℕ) → Below (field_of f).q t → no6 f rows t ≡ passed
unfolding no6 too_large
six_passes f rows t b = no_place (too_large f) 6 t _ (λ i l. lt-leb (field_of f).q (get_or t i 0) (b.at i))

-- and over no other list
pub six_says : (f : ℕ) (rows : Rows) (t : List ℕ) → no6 f rows t ≡ passed → Below (field_of f).q t
unfolding no6 too_large
six_says f rows t e = record { at = at }
  where
    at : (i : ℕ) → get_or t i 0 < (field_of f).q
    at i = elim (dec_lt i (length t)) [
      | yes l ↦ leb-false (field_of f).q (get_or t i 0) (every_place (too_large f) 6 t _ e i l)
      | no n ↦ rw (get_or-eq_default t 0 {n = i} (omega arith)) (field_of_lem f).ring.pos
    ]

pub nine_passes : (f : ℕ) (ds : List ℕ) → ((k : ℕ) → k < length ds → draw_at (field_of f) ds k ≡ 0 → ⊥) → no9 f ds ≡ passed
unfolding no9 zero_draw
nine_passes f ds h = no_place (zero_draw f) 9 ds _ (λ k l. ne_eqb _ 0 (h k l))

pub nine_says : (f : ℕ) (ds : List ℕ) → no9 f ds ≡ passed → (k : ℕ) → k < length ds → draw_at (field_of f) ds k ≡ 0 → ⊥
unfolding no9 zero_draw
nine_says f ds e k h = eqb-false _ _ (every_place (zero_draw f) 9 ds _ e k h)

-- ---- 4 to 6 together

module _ (f wanted : ℕ) (input : List ℕ) (target long : ℕ) where
  pub record Buffers : Type 0 where
    pub whole : length input ≡ wanted
    pub room : long ≡ target
    pub elements : Below (field_of f).q input

  pub buffered : (rows : Rows) → buffers f rows wanted input target long ≡ passed → Buffers
  unfolding buffers no4 no5
  buffered rows e =
      let a = no4 wanted (length input) in
      let b = no5 target long in
      let two : a or b ≡ passed = left (a or b) (no6 f rows input) e in
      record {
        whole = same 4 _ (left a b two);
        room = same 5 _ (right a b two);
        elements = six_says f rows input (right (a or b) (no6 f rows input) e);
      }

  pub buffers_pass : (rows : Rows) → length input ≡ wanted → long ≡ target → Below (field_of f).q input
      → buffers f rows wanted input target long ≡ passed
  unfolding buffers no4 no5
  buffers_pass rows a b c = right-length 4 _ a and right-length 5 _ b and six_passes f rows input c

-- ---- 7 to 9, and 14 and 15, together

module _ (f wantedMask wantedNonzero mask : ℕ) (nonzero : List ℕ) where
  pub record Exactly : Type 0 where
    pub masks : mask ≡ wantedMask
    pub others : length nonzero ≡ wantedNonzero
    pub nonzeros : no9 f nonzero ≡ passed

  pub exactly-says : exactly f wantedMask wantedNonzero mask nonzero ≡ passed → Exactly
  unfolding exactly no7 no8 no14 no15
  exactly-says e =
      let a = no7 wantedMask mask in
      let b = no14 wantedMask mask in
      let c = no8 wantedNonzero (length nonzero) in
      let d = no15 wantedNonzero (length nonzero) in
      let four : a or b or c or d ≡ passed = left (a or b or c or d) (no9 f nonzero) e in
      let three : a or b or c ≡ passed = left (a or b or c) d four in
      let two : a or b ≡ passed = left (a or b) c three in
      record {
        masks = le_antisymm (enough 14 _ (right a b two)) (enough 7 _ (left a b two));
        others = le_antisymm (enough 15 _ (right (a or b or c) d four)) (enough 8 _ (right (a or b) c three));
        nonzeros = right (a or b or c or d) (no9 f nonzero) e;
      }

  pub exactly_passes : Exactly → exactly f wantedMask wantedNonzero mask nonzero ≡ passed
  unfolding exactly no7 no8 no14 no15
  exactly_passes x =
      long_enough 7 _ (le_of_eq (sym x.masks)) and long_enough 14 _ (le_of_eq x.masks)
      and long_enough 8 _ (le_of_eq (sym x.others)) and long_enough 15 _ (le_of_eq x.others)
      and x.nonzeros

  -- 9 looks at the draws wanted, and at none after them
  pub record AtLeast : Type 0 where
    pub masks : wantedMask ≤ mask
    pub others : wantedNonzero ≤ length nonzero
    pub drawn : (k : ℕ) → k < wantedNonzero → draw_at (field_of f) nonzero k ≡ 0 → ⊥

  pub at_least_says : at_least f wantedMask wantedNonzero mask nonzero ≡ passed → AtLeast
  unfolding at_least no7 no8
  at_least_says e =
      let a = no7 wantedMask mask in
      let b = no8 wantedNonzero (length nonzero) in
      let wanted = take wantedNonzero nonzero in
      let two : a or b ≡ passed = left (a or b) (no9 f wanted) e in
      let long : wantedNonzero ≤ length nonzero = enough 8 _ (right a b two) in
      record {
        masks = enough 7 _ (left a b two);
        others = long;
        drawn = λ k h z.
            nine_says f wanted (right (a or b) (no9 f wanted) e) k (rw (length-take-le wantedNonzero nonzero long) h)
            (ap (draw (field_of f)) (get_or-take wantedNonzero nonzero k 0 h) ∙ z);
      }

  pub at_least_passes : AtLeast → at_least f wantedMask wantedNonzero mask nonzero ≡ passed
  unfolding at_least no7 no8
  at_least_passes x =
      long_enough 7 _ x.masks and long_enough 8 _ x.others
      and nine_passes f (take wantedNonzero nonzero)
      (λ k h z.
      let g : k < wantedNonzero = rw (length-take-le wantedNonzero nonzero x.others) at h in
      x.drawn k g (ap (draw (field_of f)) (sym (get_or-take wantedNonzero nonzero k 0 g)) ∙ z))
