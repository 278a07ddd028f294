-- The answer is determined by the values alone: two solves whose shares add up to the same equations answer alike, whatever the shares, their
-- number and the tapes are. Of one order they also count alike.
-- Assumes nothing.
use mathlib.Core.Path.{◌≡◌, sym, ap, ap₂, ◌∙◌, subst}
use Prim.Native.Nat.{ℕ}
use mathlib.Core.List.{List}
use Rattle.field.specs.Field.{Ops, field_of}
use Rattle.field.proofs.Fields.{field_of_lem}
use Rattle.algebra.specs.Linear as L
use Rattle.algebra.proofs.Outcome.{one_answer, means_alike}
use Rattle.course.specs.declared.Order.{Order}
use Rattle.course.specs.StepList.{up_to, sums}
use Rattle.walk.specs.declared.Ending.{Ending}
use Rattle.walk.specs.declared.Ending.TheVariants.{Solved, Stopped}
use Rattle.walk.specs.Act.{held}
use Rattle.walk.specs.Walk.{solved, Counters}
use Rattle.walk.proofs.Counted.{solved_counters}
use Rattle.meaning.specs.Meaning.{value_of, answer_of}
use Rattle.meaning.specs.Claims.{Given, SameValues}
use Rattle.meaning.proofs.Meant.{meant, left}

-- what is said of a field and a size
same_sizes : {o p : Order} {t u : List ℕ} → SameValues o p t u → (P : Ops → ℕ → Type 0) → P (field_of o.field) o.size
    → P (field_of p.field) p.size
same_sizes {o} {p} s P h =
    subst (λ (f : ℕ). P (field_of f) p.size) s.field (subst (λ (m : ℕ). P (field_of o.field) m) s.size h)

-- the same answer, and the same bytes of the solution
pub alike : (o p : Order) (ms zs t x ns ys u y : List ℕ) → Given o zs t x → Given p ys u y → SameValues o p t u
    → (answer_of (solved o ms zs (held t x)).answer ≡ answer_of (solved p ns ys (held u y)).answer)
    × ((solved o ms zs (held t x)).left.solution ≡ (solved p ns ys (held u y)).left.solution)
alike o p ms zs t x ns ys u y l k s =
    let a : L.Answer = answer_of (solved o ms zs (held t x)).answer in
    let z : List ℕ = (solved o ms zs (held t x)).left.solution in
    one_answer (field_of p.field) p.size (value_of p u) a (answer_of (solved p ns ys (held u y)).answer) z
    (solved p ns ys (held u y)).left.solution
    (same_sizes s (λ F m. L.Means F m (value_of p u) a z)
    (means_alike (field_of o.field) (field_of_lem o.field) o.size s.values a z (meant o ms zs t x l)))
    (subst (λ (m : ℕ). L.Left m a z) s.size (left o ms zs t x l))
    (meant p ns ys u y k) (left p ns ys u y k)

-- the same answer, with the counters of one order
counted_same : (o : Order) (a b : Ending) → answer_of a ≡ answer_of b → Counters o a → Counters o b → a ≡ b
counted_same o (Solved c) (Solved d) s x y = ap Solved (x ∙ sym y)
counted_same o (Solved c) (Stopped j d) s x y = cc
counted_same o (Stopped i c) (Solved d) s x y = cc
counted_same o (Stopped i c) (Stopped j d) s x y =
    let e : i ≡ j = cc in ap₂ Stopped e (x ∙ ap (λ (k : ℕ). sums o (up_to o.size k)) e ∙ sym y)

-- in one order neither the shares nor the tapes change the answer, its counters or the solution
pub answer_alike : (o : Order) (ms zs t x ns ys u y : List ℕ) → Given o zs t x → Given o ys u y → SameValues o o t u
    → ((solved o ms zs (held t x)).answer ≡ (solved o ns ys (held u y)).answer)
    × ((solved o ms zs (held t x)).left.solution ≡ (solved o ns ys (held u y)).left.solution)
answer_alike o ms zs t x ns ys u y l k s =
    let both = alike o o ms zs t x ns ys u y l k s in (
      counted_same o (solved o ms zs (held t x)).answer (solved o ns ys (held u y)).answer both.0
          (solved_counters o ms zs l.sizes.some (held t x))
          (solved_counters o ns ys k.sizes.some (held u y)),
      both.1,
    )
