-- The line of an input: of one that isn't four bytes, and of four bytes whose counts were asked for.
-- Assumes nothing.
use mathlib.Core.List.{List}
use mathlib.Core.Path.{◌≡◌, sym, ap}
use Prim.Native.Nat.{ℕ, ◌+◌, ◌*◌}
use Rattle.std.specs.Prelude.{Result}
use borrow.Author.Tests.{eq-eqb, ne_eqb}
use lib.ListN.{length, get_or}
use Rattle.course.specs.declared.Counts.{Counts}
use Rattle.verdict.specs.declared.Refusal.{Refusal}
use Rattle.verdict.specs.Calls.{Outcome, Nothing, after, says}
use Rattle.solver.specs.Calls.{order, counts_call}
use Rattle.desk_line.specs.Line.{refused_line, line_of, desk_line}

pub not_four : (input : List ℕ) → (length input ≡ 4 → ⊥) → desk_line input ≡ refused_line 13
unfolding desk_line
not_four input h = rw (ne_eqb _ _ h)

-- high, low, shares and size are the four bytes, and `a` is what `counts` answered to them
pub answered : (input : List ℕ) (high low shares size : ℕ) (a : Result Counts Refusal) → length input ≡ 4
    → high ≡ get_or input 0 0 → low ≡ get_or input 1 0 → shares ≡ get_or input 2 0 → size ≡ get_or input 3 0
    → after (says a) tt ≡ counts_call (order (high * 256 + low) shares size) → desk_line input ≡ line_of (says a)
unfolding desk_line
answered input high low shares size a four h l n m e =
    rw (eq-eqb _ _ four, ← h, ← l, ← n, ← m) (ap (λ (o : Outcome Counts Nothing). line_of o.says) (sym e))
