-- A record whose counters are the draws taken has room for those of its step, and keeps to them when it moves on.
-- Assumes nothing.
use mathlib.Core.Bool.{true}
use mathlib.Core.Path.{◌≡◌, sym, ap, ◌∙◌}
use Prim.Native.Nat.{ℕ, ◌≤◌, ◌+◌}
use native.Mathlib.Omega.{arith}
use borrow.Author.Tests.{eqb-true, eq-eqb}
use Rattle.course.specs.declared.Step.{Step}
use Rattle.course.specs.declared.Place.TheVariants.{At}
use Rattle.course.specs.declared.Order.{Order}
use Rattle.course.specs.declared.Progress.{Progress}
use Rattle.course.specs.StepList.{Sizes, in_list, mask_cost, nonzero_cost}
use Rattle.course.specs.Taken.{taken_at}
use Rattle.course.specs.Next.{order_of, moved_on, start_of, counted}
use Rattle.course.proofs.Within.{both}
use Rattle.course.proofs.Sums.{mask_small, nonzero_small}
use Rattle.course.proofs.Before.{taken-first, taken-added, taken_few}

-- counters that match
pub counters : (p : Progress) → counted p ≡ true → (p.mask ≡ (taken_at (order_of p) p.place).mask) × (p.nonzero ≡ (taken_at (order_of p) p.place).nonzero)
unfolding counted
counters p h = let a = both _ _ h in (eqb-true _ _ a.0, eqb-true _ _ a.1)

pub counted_so : (p : Progress) → p.mask ≡ (taken_at (order_of p) p.place).mask → p.nonzero ≡ (taken_at (order_of p) p.place).nonzero → counted p ≡ true
unfolding counted
counted_so p a b = rw (eq-eqb _ _ a, eq-eqb _ _ b)

-- they have room for the draws of a step
pub counted_room : (p : Progress) (s : Step) → Sizes (order_of p) → p.place ≡ At s → in_list p.size s ≡ true → counted p ≡ true
    → (p.mask + mask_cost (order_of p) s ≤ 18446744073709551615) × (p.nonzero + nonzero_cost (order_of p) s ≤ 18446744073709551615)
counted_room p s z e i h =
    let o = order_of p in
    let c = rw e at (counters p h) in
    let t = taken_few o s i in
    (omega (arith, c.0, t.0, mask_small o z), omega (arith, c.1, t.1, nonzero_small o z))

-- Start's record matches its place
pub start_counted : (o : Order) → counted (start_of o) ≡ true
unfolding start_of
start_counted o =
    counted_so (start_of o) (sym (ap (λ d. d.mask) (taken-first o))) (sym (ap (λ d. d.nonzero) (taken-first o)))

-- and a record that matches still does when it has moved on
pub moved_counted : (p : Progress) (s : Step) (x : ℕ) → p.place ≡ At s → in_list p.size s ≡ true → counted p ≡ true → counted (moved_on p s x) ≡ true
moved_counted p s x e i h =
    let o = order_of p in
    let c = rw e at (counters p h) in
    let t = taken-added o s x i in
    counted_so (moved_on p s x) (ap (λ n. n + mask_cost o s) c.0 ∙ sym (ap (λ d. d.mask) t)) (ap (λ n. n + nonzero_cost o s) c.1 ∙ sym (ap (λ d. d.nonzero) t))
