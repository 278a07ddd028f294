-- Two solutions in one wide run: the host's, which began as y, and the whole solve's, which began as zeros. At the pivots that are opened, from the
-- last back, they have the same unknowns; at any other place both are as they began. So a Lift meets the same byte in both.
-- Assumes nothing.
use mathlib.Core.Bool.{true}
use mathlib.Core.List.{List, [], ◌∷◌, ◌++◌}
use mathlib.Core.Path.{◌≡◌, refl, sym, ap, ◌∙◌}
use Prim.Native.Nat.{ℕ, ◌+◌, ◌-◌, ◌≤◌, ◌<◌}
use native.Mathlib.Decide.{ℕ_discrete, dec_lt}
use native.Mathlib.Nat.{le_refl}
use native.Mathlib.Omega.{arith}
use lib.ListN.{length, get_or, set, replicate, length-replicate, get_or-replicate, get_or-eq_default}
use lib.Seq.{get_or-set_same, get_or-set_other}
use borrow.Author.Tests.{eq-eqb, ne_eqb}
use Rattle.course.specs.declared.Step.{Step}
use Rattle.course.specs.declared.Step.TheVariants.{Mix, Check, Scale, Clear, Open, Lift}
use Rattle.course.specs.StepList.{column_of, revealed_by}
use Rattle.course.proofs.Before.{by_less}
use Rattle.walk.specs.Act.{written}
use Rattle.pattern.specs.declared.WideOrder.{WideOrder}
use Rattle.pattern.specs.declared.WidePlace.{WidePlace}
use Rattle.pattern.specs.declared.WidePlace.TheVariants.{At, Short, Done}
use Rattle.pattern.specs.Pivots.{before, row_of, last, has, ascends}
use Rattle.pattern.specs.Next.{next_column, following}
use Rattle.pattern.proofs.Ascending.{has-says, before_at}
use Rattle.pattern.proofs.Standing.{by_most, by_same, Stood, found_after, last_in}
use Rattle.pattern.proofs.Before.{last_row}
use Rattle.trace.proofs.Own.{SameRead}

-- so many pivots, the first ones, have yet to be opened at a place
abbrev pub unopened : List ℕ → WidePlace → ℕ
unopened ps (At (Mix j k)) = length ps
unopened ps (At (Check j)) = length ps
unopened ps (At (Scale j)) = length ps
unopened ps (At (Clear j k)) = length ps
unopened ps (At (Open j)) = row_of ps j
unopened ps (At (Lift j)) = before ps j
unopened ps Short = length ps
unopened ps Done = 0

-- n of the pivots have yet to be opened: x is the host's solution, y the one that it began with, and v the solve's
pub record Same (ps : List ℕ) (n : ℕ) (y x v : List ℕ) : Type 0 where
  pub opened : (c : ℕ) → has ps c ≡ true → n ≤ before ps c → get_or x (c - 1) 0 ≡ get_or v (c - 1) 0
  pub others : (c : ℕ) → 1 ≤ c → (has ps c ≡ true → before ps c < n) → (get_or x (c - 1) 0 ≡ get_or y (c - 1) 0) × (get_or v (c - 1) 0 ≡ 0)

-- none is opened
abbrev Blank : List ℕ → List ℕ → List ℕ → Type 0
Blank y x v = (c : ℕ) → 1 ≤ c → (get_or x (c - 1) 0 ≡ get_or y (c - 1) 0) × (get_or v (c - 1) 0 ≡ 0)

module _ {y x v : List ℕ} where
  blank_same : (ps : List ℕ) → Blank y x v → Same ps (length ps) y x v
  blank_same ps b =
      record { opened = λ c h l. absurd (let a = (has-says ps c h).1 in let n : ⊥ = omega arith in n); others = λ c l h. b c l }

  pub same_blank : (ps : List ℕ) → Same ps (length ps) y x v → Blank y x v
  same_blank ps s c l = s.others c l (λ h. (has-says ps c h).1)

-- a solution of zeros is 0 everywhere
pub all-zero : (n i : ℕ) → ◌≡◌ {A = ℕ} (get_or (replicate n 0) i 0) 0
all-zero n i = elim (dec_lt i n) [
  | yes l ↦ get_or-replicate n i 0 0 l
  | no g ↦ get_or-eq_default (replicate n 0) 0 (omega (arith, length-replicate {A = ℕ} n 0))
]

pub same_start : (ps : List ℕ) (y : List ℕ) (n : ℕ) → Same ps (length ps) y y (replicate n 0)
same_start ps y n = blank_same ps (λ c l. (refl, all-zero n (c - 1)))

-- where a column begins none is opened
pub next-unopened : (rows columns : ℕ) → 1 ≤ rows → (ps : List ℕ) → ascends 0 columns ps ≡ true → (j : ℕ)
    → unopened ps (next_column rows columns ps j) ≡ length ps
unfolding next_column
next-unopened rows columns some ps h j =
    by_most P rows (length ps)
    (λ a. last_row rows columns ps h (has-says ps (last ps) (last_in columns ps h (omega arith))).0)
    (λ a. by_less P columns j (λ b. refl) (λ b. by_less P (length ps + 1) rows (λ c. refl) (λ c. refl)))
  where
    P : WidePlace → Type 0
    P p = unopened ps p ≡ length ps

-- a Lift reads the same byte in both
pub same_read : (o : WideOrder) (ps : List ℕ) (s : Step) → Stood o ps (At s) → {y x v : List ℕ} → Same ps (unopened ps (At s)) y x v → SameRead s x v
same_read o ps (Mix j k) w e = tt
same_read o ps (Check j) w e = tt
same_read o ps (Scale j) w e = tt
same_read o ps (Clear j k) w e = tt
same_read o ps (Open j) w e = tt
same_read o ps (Lift j) w e = e.opened j w.1 (le_refl (before ps j))

module _ (ps : List ℕ) (y x v : List ℕ) (u j : ℕ) (is : has ps j ≡ true) (lx : j ≤ length x) (lv : j ≤ length v) where
  -- the same pivots come before no two pivots
  apart : (c : ℕ) → has ps c ≡ true → before ps c ≡ before ps j → c ≡ j
  apart c h e = sym (has-says ps c h).2 ∙ ap (λ (k : ℕ). get_or ps k 0) e ∙ (has-says ps j is).2

  -- an unknown that is written in both is the same in both
  opened_more : Same ps (row_of ps j) y x v → Same ps (before ps j) y (set x (j - 1) u) (set v (j - 1) u)
  unfolding row_of
  opened_more e =
      let low = (has-says ps j is).0 in
      record {
        opened = λ c h l. elim (ℕ_discrete c j) [
          | yes s ↦ rw s (get_or-set_same x (j - 1) u 0 (omega arith) ∙ sym (get_or-set_same v (j - 1) u 0 (omega arith)))
          | no n ↦
              let first = (has-says ps c h).0 in
              let other : (before ps c ≡ before ps j → ⊥) = λ b. n (apart c h b) in
              let more : before ps j + 1 ≤ before ps c = omega arith in
              get_or-set_other x (j - 1) (c - 1) u 0 (λ b. n (omega arith)) ∙ e.opened c h more
              ∙ sym (get_or-set_other v (j - 1) (c - 1) u 0 (λ b. n (omega arith)))
        ];
        others = λ c l f.
            let n : (c ≡ j → ⊥) = λ s. let b = f (rw s is) in let a = ap (before ps) s in omega arith in
            let o = e.others c l (λ h. let b = f h in omega arith) in
            (get_or-set_other x (j - 1) (c - 1) u 0 (λ b. n (omega arith)) ∙ o.0, get_or-set_other v (j - 1) (c - 1) u 0 (λ b. n (omega arith)) ∙ o.1);
      }

-- a step keeps it
module _ (o : WideOrder) (some : 1 ≤ o.rows) (ps : List ℕ) (h : ascends 0 o.columns ps ≡ true) (y x v : List ℕ) (u : ℕ) where
  abbrev After : Step → List ℕ → WidePlace → Type 0
  After s qs p = Same qs (unopened qs p) y (written (revealed_by s) u x) (written (revealed_by s) u v)

  next_same : (j : ℕ) → Same ps (length ps) y x v → Same ps (unopened ps (next_column o.rows o.columns ps j)) y x v
  next_same j e = rw (next-unopened o.rows o.columns some ps h j) e

  pub same_after : (s : Step) → Stood o ps (At s) → column_of s ≤ length x → column_of s ≤ length v → Same ps (unopened ps (At s)) y x v
      → After s (found_after s u ps) (following o.rows o.columns (found_after s u ps) s u)
  unfolding found_after following revealed_by row_of
  same_after (Mix j k) w lx lv e = by_less (After (Mix j k) ps) k o.rows (λ l. e) (λ l. e)
  same_after (Check j) w lx lv e = elim (ℕ_discrete u 1) [
    | yes i ↦ rw (eq-eqb u 1 i) (next_same (j + 1) e)
    | no n ↦ rw (ne_eqb u 1 n) (blank_same (ps ++ (j ∷ [])) (same_blank ps e))
  ]
  same_after (Scale j) w lx lv e = by_less (After (Scale j) ps) (length ps) o.rows (λ l. e) (λ l. next_same (j + 1) e)
  same_after (Clear j k) w lx lv e = by_less (After (Clear j k) ps) k o.rows (λ l. e) (λ l. next_same (j + 1) e)
  same_after (Open j) w lx lv e =
      let n = opened_more ps y x v u j w.1 lx lv e in
      by_same (After (Open j) ps) (before ps j) 0 (λ b. rw b at n) (λ b. n)
  same_after (Lift j) w lx lv e =
      let i : before ps j - 1 < length ps = let a = (has-says ps j w.1).1 in omega arith in
      let b : before ps j - 1 + 1 ≡ before ps j = let a = w.2 in omega arith in
      rw (before_at o.columns 0 ps h (before ps j - 1) i, b) e
