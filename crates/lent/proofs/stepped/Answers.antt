-- `lent::stepped` meets its contract: where the call refuses, the record that was lent stands as it was.
-- Assumes nothing.
use Rattle.std.proofs.Common.{rules}
use mathlib.Core.List.{List}
use mathlib.Core.Path.{◌≡◌, refl, ap}
use Prim.Native.Nat.{ℕ}
use Rattle.course.specs.declared.Place.{Place}
use Rattle.course.specs.declared.Place.TheVariants.{At, Stopped, Done}
use Rattle.course.specs.declared.Progress.{Progress}
use Rattle.walk.specs.Act.{Held}
use Rattle.verdict.specs.Told.{Line}
use Rattle.verdict.specs.Calls.{refuses, Outcome, says}
use Rattle.verdict.proofs.Calls.{outcome_holds}
use Rattle.solver.specs.declared.Stride.{Stride}
use Rattle.solver.specs.Calls.{Lent, step_does, step_call}
use Rattle.lent.proofs.stepped.Goals as goal

module _ (p : Progress) (h : Held) (mask nonzero : List ℕ) where
  abbrev Stays : Outcome Stride Lent → Type 0
  Stays o = (l : Line) → o.says ≡ refuses l → o.left.progress ≡ p

  steps : (place : Place) → Stays (step_does p place h mask nonzero)
  unfolding step_does
  steps (At s) l e = cc
  steps (Stopped j) l e = refl
  steps Done l e = refl

  refused_stays : (o : Outcome Stride Lent) → o ≡ step_call p h mask nonzero → Stays o
  unfolding step_call
  refused_stays o e = outcome_holds Stays _ _ _ o e (λ l k d. refl) (λ passes. steps p.place)

pub returns-in_err-told : goal.returns-in_err-told
returns-in_err-told c =
    let same : c.step.new.p ≡ c.args.p = refused_stays c.args.p _ _ _ _ c.step.ensures _ (ap says c.in_err-told.was) in
    search (rules, same)
