-- Only one outcome meets the plain call's promise.
-- Assumes nothing.
use mathlib.Core.List.{List}
use mathlib.Core.Path.{◌≡◌, refl, ap}
use Prim.Native.Nat.{ℕ}
use Rattle.std.specs.Prelude.{Result, Ok, Err}
use Rattle.algebra.specs.Linear.{Answer, solved, stopped}
use Rattle.verdict.specs.declared.Refusal.{Refusal}
use Rattle.verdict.specs.Calls.{Says, refuses, gives}
use Rattle.verdict.proofs.Once.{back, back-paper, Once, only}
use Rattle.plain.specs.declared.Ending.{Ending}
use Rattle.plain.specs.declared.Ending.TheVariants.{Solved, Stopped}
use Rattle.plain.specs.Calls.{plain_says}

plain_back_lem : Says Answer → Result Ending Refusal
plain_back_lem (refuses l) = Err (back l)
plain_back_lem (gives solved) = Ok Solved
plain_back_lem (gives (stopped j)) = Ok (Stopped j)

plain_back : (s : Result Ending Refusal) → plain_back_lem (plain_says s) ≡ s
unfolding plain_back_lem
plain_back (Ok Solved) = refl
plain_back (Ok (Stopped j)) = refl
plain_back (Err r) = ap Err (back-paper r)

pub plain_once : Once plain_says (List ℕ)
plain_once = only plain_says plain_back_lem plain_back
