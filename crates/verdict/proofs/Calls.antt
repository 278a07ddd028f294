-- A call at work: what it says and leaves where its checks refuse, and where they pass.
-- Assumes nothing.
use mathlib.Core.Path.{◌≡◌, refl, sym, ap, ◌∙◌, subst}
use Rattle.std.specs.Prelude.{Result, Ok, Err}
use Rattle.verdict.specs.declared.Refusal.{Refusal}
use Rattle.verdict.specs.Told.{Told, Line, passed, refused}
use Rattle.verdict.specs.Refusals.{paper}
use Rattle.verdict.specs.Calls.{refuses, Outcome, after, call}
use Rattle.verdict.specs.Code.Verdicts.{told}

module _ {A L : Type 0} where
  pub call_goes : (x : Told) (found : L) (does : Outcome A L) → x ≡ passed → call x found does ≡ does
  unfolding call
  call_goes x found does e = rw e

  pub call_stops : (x : Told) (found : L) (does : Outcome A L) (l : Line) → x ≡ refused l → call x found does ≡ after (refuses l) found
  unfolding call
  call_stops x found does l e = rw e

  -- what holds of every refusal, and of the work where the checks pass, holds of all that comes to the call's outcome
  call_holds : (P : Outcome A L → Type 0) (x : Told) (found : L) (does : Outcome A L) → ((l : Line) → P (after (refuses l) found))
      → (x ≡ passed → P does) → P (call x found does)
  unfolding call
  call_holds P passed found does r d = d refl
  call_holds P (refused l) found does r d = r l

  pub outcome_holds : (P : Outcome A L → Type 0) (x : Told) (found : L) (does o : Outcome A L) → o ≡ call x found does
      → ((l : Line) → P (after (refuses l) found)) → (x ≡ passed → P does) → P o
  outcome_holds P x found does o e r d = subst P (sym e) (call_holds P x found does r d)

  pub refuses_call : (v : Result (Unit {0}) Refusal) (r : Refusal) (x : Told) (found : L) (does : Outcome A L) → told v ≡ x → v ≡ Err r
      → after (refuses (paper r)) found ≡ call x found does
  refuses_call v r x found does e h = sym (call_stops x found does (paper r) (sym e ∙ ap told h))

  pub passes_call : (v : Result (Unit {0}) Refusal) (u : Unit {0}) (x : Told) (found : L) (does : Outcome A L) → told v ≡ x → v ≡ Ok u → does ≡ call x found does
  passes_call v u x found does e h = sym (call_goes x found does (sym e ∙ ap told h))
