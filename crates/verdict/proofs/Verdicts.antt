-- Checks in an order: where the first refuses or passes; and a check whose test was worked out before.
-- Assumes nothing.
use mathlib.Core.Bool.{Bool}
use mathlib.Core.Path.{◌≡◌, sym, ap, ◌∙◌}
use Rattle.std.specs.Prelude.{Result, Ok, Err}
use Rattle.verdict.specs.declared.Refusal.{Refusal}
use Rattle.verdict.specs.Told.{Told, Line, passed, refused, when, ◌or◌}
use Rattle.verdict.specs.Refusals.{paper}
use Rattle.verdict.specs.Code.Verdicts.{told}
use Rattle.verdict.proofs.Told.{goes, stops}

module _ (v : Result (Unit {0}) Refusal) where
  pub stops_at : (r : Refusal) (x y : Told) → told v ≡ x → v ≡ Err r → refused (paper r) ≡ x or y
  stops_at r x y e h =
      let w : x ≡ refused (paper r) = sym e ∙ ap told h in
      sym w ∙ sym (stops x y (paper r) w)

  pub goes_on : (u : Unit {0}) (x y : Told) → told v ≡ x → v ≡ Ok u → y ≡ x or y
  goes_on u x y e h = sym (goes x y (sym e ∙ ap told h))

  -- a check that passes tells a pass
  pub passes : (u : Unit {0}) (x : Told) → told v ≡ x → v ≡ Ok u → x ≡ passed
  passes u x e h = sym e ∙ ap told h

-- a check whose test was worked out before
pub tests : {v : Told} {a b : Bool} (l : Line) → v ≡ when a (refused l) → a ≡ b → v ≡ when b (refused l)
tests l e h = e ∙ ap (λ (t : Bool). when t (refused l)) h
