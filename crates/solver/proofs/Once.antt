-- Only one outcome meets a call's promise: of two that do, the answers are one, and so is what they leave. Each answer is read back from what
-- 01 says of it.
-- Assumes nothing.
use mathlib.Core.List.{List}
use mathlib.Core.Path.{◌≡◌, refl, sym, ap, ◌∙◌}
use Prim.Native.Nat.{ℕ}
use Rattle.std.specs.Prelude.{Result, Ok, Err}
use Rattle.course.specs.declared.Counts.{Counts}
use Rattle.course.specs.declared.Draws.{Draws}
use Rattle.course.specs.declared.Progress.{Progress}
use Rattle.walk.specs.declared.Ending.{Ending}
use Rattle.walk.specs.Act.{Held}
use Rattle.solver.specs.declared.Stride.{Stride}
use Rattle.solver.specs.declared.Stepped.{Stepped}
use Rattle.verdict.specs.declared.Refusal.{Refusal}
use Rattle.verdict.specs.Calls.{Says, refuses, gives, Outcome, after, Nothing, says}
use Rattle.verdict.proofs.Once.{back, back-paper, Once, once_says}
use Rattle.solver.specs.Calls.{step_says, left_by, Lent, lent}

-- so of Start, of the counts, of Deal and Gather, of Solve, of Step and of Wanted, each with what it is lent
pub start_once : Once {E = Result Progress Refusal} says Nothing
start_once = once_says

pub counts_once : Once {E = Result Counts Refusal} says Nothing
counts_once = once_says

pub fill_once : Once {E = Result Nothing Refusal} says (List ℕ)
fill_once = once_says

pub solve_once : Once {E = Result Ending Refusal} says Held
solve_once = once_says

pub step_once : Once {E = Result Stride Refusal} says Lent
step_once = once_says

pub wanted_once : Once {E = Result Draws Refusal} says Nothing
wanted_once = once_says

-- and of Step on a record by value, of which a refusal leaves nothing to say
module _ (p : Progress) where
  stepped_back : Outcome Stride Lent → Result Stepped Refusal
  stepped_back o = by o.says
    where
      by : Says Stride → Result Stepped Refusal
      by (refuses l) = Err (back l)
      by (gives s) = Ok (record { told = s; next = o.left.progress })

  back_stepped : (s : Result Stepped Refusal) (h : Held) → stepped_back (after (step_says s) (lent (left_by p s) h)) ≡ s
  unfolding stepped_back
  back_stepped (Ok s) h = refl
  back_stepped (Err r) h = ap Err (back-paper r)

  pub stepped_once : (o : Outcome Stride Lent) (a b : Result Stepped Refusal) (h k : Held)
      → after (step_says a) (lent (left_by p a) h) ≡ o → after (step_says b) (lent (left_by p b) k) ≡ o → (a ≡ b) × (h ≡ k)
  stepped_once o a b h k e d =
      let w : after (step_says a) (lent (left_by p a) h) ≡ after (step_says b) (lent (left_by p b) k) = e ∙ sym d in
      (sym (back_stepped a h) ∙ ap stepped_back w ∙ back_stepped b k, ap (λ (u : Outcome Stride Lent). u.left.held) w)
