-- A scan for the first place that meets a test, whatever the test: what holds at place i of its loop, where it ends, and what stands before.
-- Assumes nothing.
use mathlib.Core.Bool.{Bool, true, false, not}
use mathlib.Core.List.{List, [], ◌∷◌}
use mathlib.Core.Path.{◌≡◌, refl, sym, ◌∙◌}
use Prim.Native.Nat.{ℕ, zero, suc, ◌+◌, ◌<◌, ◌≤◌}
use native.Mathlib.Numerals.{add-one}
use native.Mathlib.Omega.{arith}
use lib.ListN.{length, drop, get_or, length-drop}
use lib.Seq.{drop-cons}
use borrow.Author.Tests.{le-ltb}
use Rattle.std.specs.Prelude.{Some, None, cond, nat_lt, position}
use Rattle.std.specs.List.{position_or_len}
use Rattle.verdict.specs.Refusals.{first_place, or_next, any_place}

-- the first place is at i or later
unfoldable pub Passed : (ℕ → Bool) → List ℕ → ℕ → Type 0
Passed test s i = first_place test s ≡ i + first_place test (drop i s)

module _ (test : ℕ → Bool) (s : List ℕ) (i : ℕ) where
  here : i < length s → first_place test (drop i s) ≡ or_next (test (get_or s i 0)) (first_place test (drop (suc i) s))
  unfolding first_place
  here h = rw (drop-cons s i 0 h)

  pub scan_next : Passed test s i → i < length s → test (get_or s i 0) ≡ false → Passed test s (i + 1)
  unfolding Passed
  scan_next e h t =
      let k : first_place test (drop i s) ≡ suc (first_place test (drop (suc i) s)) = rw t at (here h) in
      rw add-one (omega (arith, k, e))

  pub scan_found : Passed test s i → i < length s → test (get_or s i 0) ≡ true → i ≡ first_place test s
  unfolding Passed
  scan_found e h t =
      let k : first_place test (drop i s) ≡ 0 = rw t at (here h) in
      omega (arith, k, e)

none : (test : ℕ → Bool) (s : List ℕ) → length s ≡ 0 → first_place test s ≡ 0
unfolding first_place
none test [] e = refl
none test (x ∷ s) e = absurd (omega arith)

pub scan_start : (test : ℕ → Bool) (s : List ℕ) → Passed test s 0
unfolding Passed
scan_start test s = omega arith

pub scan-end : (test : ℕ → Bool) (s : List ℕ) (i : ℕ) → Passed test s i → length s ≤ i → i ≡ first_place test s
unfolding Passed
scan-end test s i e h =
    let k : first_place test (drop i s) ≡ 0 = none test (drop i s) (rw length-drop (omega arith)) in
    omega (arith, k, e)

-- no place before the first meets the test
module _ (test : ℕ → Bool) (x : ℕ) (s : List ℕ) where
  one_on : (b : Bool) → test x ≡ b → ((k : ℕ) → k < first_place test s → test (get_or s k 0) ≡ false) → (k : ℕ) → k < or_next b (first_place test s)
      → test (get_or (x ∷ s) k 0) ≡ false
  one_on true e rest k h = absurd (omega arith)
  one_on false e rest zero h = e
  one_on false e rest (suc k) h = rest k (omega arith)

pub before-first : (test : ℕ → Bool) (s : List ℕ) (k : ℕ) → k < first_place test s → test (get_or s k 0) ≡ false
unfolding first_place
before-first test [] k h = absurd (omega arith)
before-first test (x ∷ s) k h = one_on test x s (test x) refl (before-first test s) k h

-- ---- the library's `position`

one_more : {n k : ℕ} (b : Bool) → n ≡ k → cond (not b) (1 + n) 0 ≡ or_next b k
one_more true e = refl
one_more false e = omega (arith, e)

pub first_len : (test : ℕ → Bool) (s : List ℕ) → position_or_len test s ≡ first_place test s
unfolding first_place
first_len test [] = refl
first_len test (x ∷ s) = one_more (test x) (first_len test s)

module _ (test : ℕ → Bool) (s : List ℕ) where
  here_or_none : (b : Bool) → nat_lt (position_or_len test s) (length s) ≡ b → position test s ≡ cond b (Some (first_place test s)) None
  here_or_none b e = rw (e, first_len test s)

  any : any_place test s ≡ nat_lt (position_or_len test s) (length s)
  any = rw (first_len test s)

  pub found : (k : ℕ) → position test s ≡ Some k → (any_place test s ≡ true) × (first_place test s ≡ k)
  found k e = on (nat_lt (position_or_len test s) (length s)) refl
    where
      on : (b : Bool) → nat_lt (position_or_len test s) (length s) ≡ b → (any_place test s ≡ true) × (first_place test s ≡ k)
      on true h = let w : Some (first_place test s) ≡ Some k = sym (here_or_none true h) ∙ e in (any ∙ h, cc)
      on false h = let w : None ≡ Some k = sym (here_or_none false h) ∙ e in cc

  pub unfound : position test s ≡ None → any_place test s ≡ false
  unfound e = on (nat_lt (position_or_len test s) (length s)) refl
    where
      on : (b : Bool) → nat_lt (position_or_len test s) (length s) ≡ b → any_place test s ≡ false
      on true h = let w : Some (first_place test s) ≡ None = sym (here_or_none true h) ∙ e in cc
      on false h = any ∙ h

  pub none_found : length s ≡ first_place test s → position test s ≡ None
  none_found e = here_or_none false (le-ltb _ _ (rw (first_len test s) (omega (arith, e))))
