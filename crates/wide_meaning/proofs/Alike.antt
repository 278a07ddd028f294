-- The answer of a wide solve is determined by the values alone: two solves whose shares add up to the same equations answer alike and find the same
-- pivots, whatever the shares, their number and the tapes are. Of one order they also count alike.
-- Assumes nothing.
use mathlib.Core.Path.{◌≡◌, sym, ap, ◌∙◌, subst}
use Prim.Native.Nat.{ℕ}
use mathlib.Core.List.{List}
use Rattle.field.specs.Field.{Ops, field_of}
use Rattle.field.proofs.Fields.{field_of_lem}
use Rattle.algebra.specs.Wide.{WideAnswer, WideLeft, WideMeans}
use Rattle.algebra.proofs.Wide.{wide_once, wide_alike}
use Rattle.walk.specs.Act.{held}
use Rattle.pattern.specs.declared.WideOrder.{WideOrder}
use Rattle.wide_walk.specs.declared.WideEnding.{WideEnding}
use Rattle.wide_walk.specs.declared.WideEnding.TheVariants.{Solved, Short}
use Rattle.wide_walk.specs.WideWalk.{solved, pattern_of, Counters}
use Rattle.wide_walk.proofs.Walked.{solved_counters}
use Rattle.wide_meaning.specs.WideMeaning.{value_of, answer_of, Given, SameValues}
use Rattle.wide_meaning.proofs.Meant.{meant, left}

-- what is said of a field, of so many rows and of so many columns
same_sizes : {o p : WideOrder} {t u : List ℕ} → SameValues o p t u → (P : Ops → ℕ → ℕ → Type 0)
    → P (field_of o.field) o.rows o.columns → P (field_of p.field) p.rows p.columns
same_sizes {o} {p} s P h =
    subst (λ (f : ℕ). P (field_of f) p.rows p.columns) s.field
    (subst (λ (m : ℕ). P (field_of o.field) m p.columns) s.rows (subst (λ (c : ℕ). P (field_of o.field) o.rows c) s.columns h))

-- the same answer, the same pivots, and the same bytes of the solution
pub alike : (o p : WideOrder) (ms zs t x ns ys u y : List ℕ) → Given o zs t x → Given p ys u y → SameValues o p t u
    → (answer_of (solved o ms zs (held t x)).answer ≡ answer_of (solved p ns ys (held u y)).answer)
    × (pattern_of o ms zs (held t x) ≡ pattern_of p ns ys (held u y))
    × ((solved o ms zs (held t x)).left.solution ≡ (solved p ns ys (held u y)).left.solution)
alike o p ms zs t x ns ys u y l k s =
    let a : WideAnswer = answer_of (solved o ms zs (held t x)).answer in
    let qs : List ℕ = pattern_of o ms zs (held t x) in
    let v : List ℕ = (solved o ms zs (held t x)).left.solution in
    wide_once (field_of p.field) p.rows (value_of p u) p.columns a (answer_of (solved p ns ys (held u y)).answer) qs
    (pattern_of p ns ys (held u y)) v (solved p ns ys (held u y)).left.solution
    (same_sizes s (λ F m C. WideMeans F m (value_of p u) C a qs v)
    (wide_alike (field_of o.field) (field_of_lem o.field) o.rows o.columns s.values a qs v (meant o ms zs t x l)))
    (subst (λ (c : ℕ). WideLeft c a v) s.columns (left o ms zs t x l))
    (meant p ns ys u y k) (left p ns ys u y k)

-- the same answer and pivots, with the counters of one order
counted_same : (o : WideOrder) (ps qs : List ℕ) (a b : WideEnding) → answer_of a ≡ answer_of b → ps ≡ qs → Counters o ps a → Counters o qs b → a ≡ b
counted_same o ps qs (Solved c) (Solved d) s e x y = ap Solved (x.1 ∙ rw e (sym y.1))
counted_same o ps qs (Solved c) (Short d) s e x y = cc
counted_same o ps qs (Short c) (Solved d) s e x y = cc
counted_same o ps qs (Short c) (Short d) s e x y = ap Short (x ∙ rw e (sym y))

-- in one order neither the shares nor the tapes change the answer, its counters, the pivots or the solution
pub answer_alike : (o : WideOrder) (ms zs t x ns ys u y : List ℕ) → Given o zs t x → Given o ys u y → SameValues o o t u
    → ((solved o ms zs (held t x)).answer ≡ (solved o ns ys (held u y)).answer)
    × (pattern_of o ms zs (held t x) ≡ pattern_of o ns ys (held u y))
    × ((solved o ms zs (held t x)).left.solution ≡ (solved o ns ys (held u y)).left.solution)
answer_alike o ms zs t x ns ys u y l k s =
    let all = alike o o ms zs t x ns ys u y l k s in (
      counted_same o (pattern_of o ms zs (held t x)) (pattern_of o ns ys (held u y)) (solved o ms zs (held t x)).answer
          (solved o ns ys (held u y)).answer
          all.0
          all.1
          (solved_counters o l.sizes ms zs (held t x) l.table l.solution)
          (solved_counters o k.sizes ns ys (held u y) k.table k.solution),
      all.1,
      all.2,
    )
