-- By which numbers a call can be refused; proofs/Numbers.antt has it for each call, and proofs/Trace.antt for the calls of a run.
-- Assumes nothing.
use Rattle.std.specs.Prelude.{Bool, true, false, ◌||◌, List, [], ◌∷◌, ◌≡◌, ℕ, eqb}
use Rattle.verdict.specs.Told.{Told, refused, Line}

unfoldable pub one_of : ℕ → List ℕ → Bool
one_of k [] = false
one_of k (n ∷ ns) = eqb k n || one_of k ns

-- a refusal whose number is one of these
unfoldable pub Among : List ℕ → Line → Type 0
Among ns l = one_of l.number ns ≡ true

-- what holds of every refusal that an order gives
pub record Gives (P : Line → Type 0) (v : Told) : Type 0 where
  pub only : (l : Line) → v ≡ refused l → P l
