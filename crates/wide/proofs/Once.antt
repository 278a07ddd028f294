-- Only one outcome meets a wide call's promise: of two that do, the answers are one, and so is what they leave. Each answer is read back from what
-- it says in 02's words; a step's, with the record that it leaves.
-- Assumes nothing.
use mathlib.Core.Path.{◌≡◌, refl, sym, ap, ◌∙◌}
use Rattle.std.specs.Prelude.{Result, Ok, Err}
use Rattle.course.specs.declared.Draws.{Draws}
use Rattle.walk.specs.Act.{Held}
use Rattle.pattern.specs.declared.WideProgress.{WideProgress}
use Rattle.wide_walk.specs.declared.WideEnding.{WideEnding}
use Rattle.verdict.specs.declared.Refusal.{Refusal}
use Rattle.verdict.specs.Calls.{Says, refuses, gives, Outcome, after, Nothing, says}
use Rattle.verdict.proofs.Once.{back, back-paper, Once, once_says}
use Rattle.wide.specs.declared.WideStride.{WideStride}
use Rattle.wide.specs.declared.WideStepped.{WideStepped}
use Rattle.wide.specs.WideCalls.{step_says, left_by, Lent, lent}

-- so of Start, of the counts and of Wanted, of Solve and of Step, each with what it is lent
pub start_once : Once {E = Result WideProgress Refusal} says Nothing
start_once = once_says

pub counts_once : Once {E = Result Draws Refusal} says Nothing
counts_once = once_says

pub solve_once : Once {E = Result WideEnding Refusal} says Held
solve_once = once_says

pub step_once : Once {E = Result WideStride Refusal} says Lent
step_once = once_says

-- and of Step on a record by value, of which a refusal leaves nothing to say
module _ (p : WideProgress) where
  stepped_back : Says WideStride → WideProgress → Result WideStepped Refusal
  stepped_back (refuses l) n = Err (back l)
  stepped_back (gives a) n = Ok (record { told = a; next = n })

  back_stepped : (s : Result WideStepped Refusal) → stepped_back (step_says s) (left_by p s) ≡ s
  unfolding stepped_back
  back_stepped (Ok s) = refl
  back_stepped (Err r) = ap Err (back-paper r)

  pub stepped_once : (o : Outcome WideStride Lent) (a b : Result WideStepped Refusal) (h k : Held)
      → after (step_says a) (lent (left_by p a) h) ≡ o → after (step_says b) (lent (left_by p b) k) ≡ o → (a ≡ b) × (h ≡ k)
  stepped_once o a b h k e d =
      let w : after (step_says a) (lent (left_by p a) h) ≡ after (step_says b) (lent (left_by p b) k) = e ∙ sym d in (
        sym (back_stepped a) ∙ ap (λ (u : Outcome WideStride Lent). stepped_back u.says u.left.progress) w ∙ back_stepped b,
        ap (λ (u : Outcome WideStride Lent). u.left.held) w,
      )
