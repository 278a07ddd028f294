-- What meets the plain call's equation has its meaning.
-- Assumes nothing.
use mathlib.Core.List.{List}
use mathlib.Core.Path.{◌≡◌}
use Prim.Native.Nat.{ℕ, ◌+◌}
use lib.ListN.{length}
use Rattle.algebra.specs.Linear.{Answer}
use Rattle.verdict.specs.Calls.{Says, Outcome, after}
use Rattle.verdict.proofs.Calls.{outcome_holds}
use Rattle.plain.specs.Calls.{plain_does, plain_call, Tells}
use Rattle.plain.proofs.Admitted.{Admitted, admitted, one_byte}
use Rattle.plain.proofs.Entries.{Elements}
use Rattle.plain.proofs.Sound.{sound}

module _ (f m : ℕ) (values x : List ℕ) where
  pub elements : Admitted f m values (length x) → Elements f m (m + 1) values
  elements a = record { size = one_byte m values a.entries; below = a.elements }

  pub means : (a : Says Answer) (y : List ℕ) → after a y ≡ plain_call f m values x → Tells f m values a y
  unfolding plain_call plain_does
  means a y e =
      outcome_holds (λ (o : Outcome Answer (List ℕ)). Tells f m values o.says o.left) _ _ _ (after a y) e (λ l. tt)
      (λ p. let d = admitted f m values (length x) p in (sound f m values x (elements d) d.room).0)
