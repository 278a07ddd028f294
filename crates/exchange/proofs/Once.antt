-- Only one outcome meets the promise of each call.
-- Assumes nothing.
use mathlib.Core.List.{List}
use Prim.Native.Nat.{ℕ}
use Rattle.verdict.specs.Calls.{Nothing, says}
use Rattle.verdict.proofs.Once.{Once, once_says}
use Rattle.exchange.specs.declared.System.{System}

pub write_once : Once {A = Nothing} says (List ℕ)
write_once = once_says

pub read_once : Once {A = System} says Nothing
read_once = once_says
