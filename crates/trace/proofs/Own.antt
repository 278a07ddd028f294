-- What a step opens and what it leaves of the table hang on the table and on its own draws alone, on no other draw, and for a Lift on its byte of
-- the solution. Two solutions that begin apart have the same unknowns from the last down to the one that was opened last: so a Lift meets the
-- same byte in both, and at the end they are one.
-- Assumes nothing.
use mathlib.Core.Bool.{true}
use mathlib.Core.List.{List}
use mathlib.Core.Path.{◌≡◌, refl, sym, ap, ◌∙◌}
use Prim.Native.Nat.{ℕ, suc, ◌+◌, ◌-◌, ◌<◌, ◌≤◌}
use native.Mathlib.Decide.{ℕ_discrete}
use native.Mathlib.Nat.{le_refl}
use native.Mathlib.Omega.{arith}
use lib.Dec.{ltb, eqb}
use lib.ListN.{length, get_or, set}
use lib.Seq.{get_or-set_same, get_or-set_other, ext_get_or}
use Rattle.field.specs.Field.{field_of}
use Rattle.sharing.specs.Lists.{SameDraws}
use Rattle.table.specs.Layout.{table_bytes, Inside}
use Rattle.table.specs.Steps.{lift}
use Rattle.table.proofs.Draws.{mix-draws, check-draws, scale-draws, clear-draws, opens_draws}
use Rattle.course.specs.declared.Step.{Step}
use Rattle.course.specs.declared.Step.TheVariants.{Mix, Check, Scale, Clear, Open, Lift}
use Rattle.course.specs.declared.Place.{Place}
use Rattle.course.specs.declared.Place.TheVariants.{At, Stopped, Done}
use Rattle.course.specs.declared.Order.{Order}
use Rattle.course.specs.StepList.{in_list, column_of, cost_of, cost_in, mask_cost, nonzero_cost, revealed_by}
use Rattle.course.specs.Next.{first_of, following}
use Rattle.course.proofs.Within.{within, column_in}
use Rattle.course.proofs.Along.{either}
use Rattle.course.proofs.Before.{by_less}
use Rattle.walk.specs.Act.{held, Row, OtherRow, step_opens, step_leaves, opened, written, acted}
use Rattle.walk.proofs.Acted.{inside, other_row}

-- an entry of [A | b]
pub in_table : {m r c : ℕ} → 1 ≤ r → r ≤ m → 1 ≤ c → c ≤ m + 1 → Inside m (m + 1) r c
in_table a b c d = record { row_low = a; row_high = b; column_low = c; column_high = d }

-- ---- two solutions

-- the first unknown that stands in the solution before a step, and at a place: those after it stand there too
abbrev known_at : ℕ → Step → ℕ
known_at m (Mix j k) = m + 1
known_at m (Check j) = m + 1
known_at m (Scale j) = m + 1
known_at m (Clear j k) = m + 1
known_at m (Open j) = j + 1
known_at m (Lift j) = j

abbrev pub known_from : ℕ → Place → ℕ
known_from m (At s) = known_at m s
known_from m (Stopped j) = m + 1
known_from m Done = 1

-- two solutions of m unknowns have the same ones from the k-th on
pub record SameFrom (m k : ℕ) (x y : List ℕ) : Type 0 where
  pub at : (i : ℕ) → k ≤ i → i ≤ m → get_or x (i - 1) 0 ≡ get_or y (i - 1) 0

-- the byte that a step reads is the same in both
abbrev pub SameRead : Step → List ℕ → List ℕ → Type 0
SameRead (Mix j k) x y = Unit
SameRead (Check j) x y = Unit
SameRead (Scale j) x y = Unit
SameRead (Clear j k) x y = Unit
SameRead (Open j) x y = Unit
SameRead (Lift j) x y = get_or x (j - 1) 0 ≡ get_or y (j - 1) 0

module _ (m : ℕ) where
  none_known : (k : ℕ) → m < k → {x y : List ℕ} → SameFrom m k x y
  none_known k l = record { at = λ i a b. absurd (let n : ⊥ = omega arith in n) }

  pub same_first : (j : ℕ) {x y : List ℕ} → SameFrom m (known_from m (first_of m j)) x y
  unfolding first_of
  same_first j {x} {y} =
      either (λ (p : Place). SameFrom m (known_from m p) x y) (ltb j m) (none_known (m + 1) (omega arith)) (none_known (m + 1) (omega arith))

  pub same_read : (s : Step) → in_list m s ≡ true → {x y : List ℕ} → SameFrom m (known_at m s) x y → SameRead s x y
  same_read (Mix j k) h e = tt
  same_read (Check j) h e = tt
  same_read (Scale j) h e = tt
  same_read (Clear j k) h e = tt
  same_read (Open j) h e = tt
  same_read (Lift j) h e = let w = within m (Lift j) h in e.at j (le_refl j) w.1

  module _ (x y : List ℕ) (lx : length x ≡ m) (ly : length y ≡ m) (u : ℕ) where
    -- an unknown that is written in both is the same in both
    written_same : (j : ℕ) → 1 ≤ j → j ≤ m → SameFrom m (j + 1) x y → SameFrom m j (set x (j - 1) u) (set y (j - 1) u)
    written_same j a b e =
        record {
          at = λ i l h. elim (ℕ_discrete i j) [
            | yes s ↦
                ap (λ (k : ℕ). get_or (set x (j - 1) u) (k - 1) 0) s ∙ get_or-set_same x (j - 1) u 0 (omega (arith, lx))
                ∙ sym (ap (λ (k : ℕ). get_or (set y (j - 1) u) (k - 1) 0) s ∙ get_or-set_same y (j - 1) u 0 (omega (arith, ly)))
            | no n ↦
                get_or-set_other x (j - 1) (i - 1) u 0 (λ z. n (omega arith)) ∙ e.at i (omega (arith, n)) h
                ∙ sym (get_or-set_other y (j - 1) (i - 1) u 0 (λ z. n (omega arith)))
          ];
        }

    abbrev After : Step → Place → Type 0
    After s p = SameFrom m (known_from m p) (written (revealed_by s) u x) (written (revealed_by s) u y)

    -- and so a step keeps them
    pub same_after : (s : Step) → in_list m s ≡ true → SameFrom m (known_at m s) x y → After s (following m s u)
    unfolding following revealed_by
    same_after (Mix j k) h e = either (After (Mix j k)) (ltb k m) (none_known (m + 1) (omega arith)) (none_known (m + 1) (omega arith))
    same_after (Check j) h e = either (After (Check j)) (eqb u 1) (none_known (m + 1) (omega arith)) (none_known (m + 1) (omega arith))
    same_after (Scale j) h e = either (After (Scale j)) (ltb j m) (none_known (m + 1) (omega arith)) (none_known (m + 1) (omega arith))
    same_after (Clear j k) h e = either (After (Clear j k)) (ltb k m) (none_known (m + 1) (omega arith)) (same_first (j + 1))
    same_after (Open j) h e =
        let w = within m (Open j) h in
        let n = written_same j w.0 w.1 e in
        by_less (After (Open j)) 1 j (λ l. n) (λ l. let z : j ≡ 1 = omega arith in record { at = λ i a b. n.at i (omega arith) b })
    same_after (Lift j) h e = let w = within m (Lift j) h in record { at = λ i a b. e.at i (omega arith) b }

  pub all_known : (x y : List ℕ) → length x ≡ m → length y ≡ m → SameFrom m 1 x y → x ≡ y
  all_known x y lx ly e = ext_get_or 0 x y (lx ∙ sym ly) (λ i l. rw (sub-one i) at (e.at (suc i) (omega arith) (omega arith)))
    where
      sub-one : (i : ℕ) → suc i - 1 ≡ i
      sub-one i = omega arith

-- ---- one step

-- on a table of so many rows of w columns, where row r takes the column's pivot
module _ (f n rows w r : ℕ) (R : Row rows r) (t : List ℕ) (whole : length t ≡ table_bytes n rows w) {ds es : List ℕ} where
  pub opens_own : (s : Step) → 1 ≤ column_of s → column_of s < w → SameDraws (field_of f) (cost_in f n w s).mask ds es → (x y : List ℕ)
      → step_opens f n w r s ds (held t x) ≡ step_opens f n w r s es (held t y)
  unfolding step_opens cost_in revealed_by
  opens_own (Mix j k) a b d x y = refl
  opens_own (Check j) a b d x y = check-draws f n rows w t whole (inside R a (omega arith)) d
  opens_own (Scale j) a b d x y = refl
  opens_own (Clear j k) a b d x y = refl
  opens_own (Open j) a b d x y = opens_draws f n rows w t whole (inside R (omega arith) (le_refl w)) d
  opens_own (Lift j) a b d x y = refl

  pub leaves-own : (s : Step) → OtherRow rows s → 1 ≤ column_of s → column_of s < w → SameDraws (field_of f) (cost_in f n w s).mask ds es
      → {nz mz : List ℕ} → SameDraws (field_of f) (cost_in f n w s).nonzero nz mz → (x y : List ℕ) → SameRead s x y
      → (step_leaves f n w r s ds nz (held t x)).table ≡ (step_leaves f n w r s es mz (held t y)).table
  unfolding step_leaves cost_in
  leaves-own (Mix j k) u a b d dz x y e = mix-draws f n rows w t whole (inside R a (omega arith)) k d
  leaves-own (Check j) u a b d dz x y e = refl
  leaves-own (Scale j) u a b d dz x y e = scale-draws f n rows w t whole (inside R a (omega arith)) dz d
  leaves-own (Clear j k) u a b d dz x y e = clear-draws f n rows w t whole (inside u a (omega arith)) r d
  leaves-own (Open j) u a b d dz x y e = refl
  leaves-own (Lift j) u a b d dz x y e = ap (λ (v : ℕ). lift f n w r j v t) e

-- in the square system of an order
module _ (o : Order) (t : List ℕ) (whole : length t ≡ table_bytes o.shares o.size (o.size + 1)) {ds es : List ℕ} where
  pub opened-own : (s : Step) → in_list o.size s ≡ true → SameDraws (field_of o.field) (mask_cost o s) ds es → (x y : List ℕ)
      → opened o s ds (held t x) ≡ opened o s es (held t y)
  unfolding opened cost_of
  opened-own s h d =
      let c = column_in o.size s (within o.size s h) in
      opens_own o.field o.shares o.size (o.size + 1) (column_of s) c t whole s c.0 (omega arith) d

  pub table-own : (s : Step) → in_list o.size s ≡ true → SameDraws (field_of o.field) (mask_cost o s) ds es → {nz mz : List ℕ}
      → SameDraws (field_of o.field) (nonzero_cost o s) nz mz → (x y : List ℕ) → SameRead s x y
      → (acted o s ds nz (held t x)).table ≡ (acted o s es mz (held t y)).table
  unfolding acted cost_of
  table-own s h d dz =
      let u = within o.size s h in
      let c = column_in o.size s u in
      leaves-own o.field o.shares o.size (o.size + 1) (column_of s) c t whole s (other_row o.size s u) c.0 (omega arith) d dz
