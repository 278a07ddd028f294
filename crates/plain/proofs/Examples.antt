-- R-1's systems, solved by the definition: F16, then F256. Where a pivot's place is 0 a row from below is exchanged into it. And a value that
-- is refused.
-- Assumes nothing.
use mathlib.Core.Path.{◌≡◌, refl}
use Prim.Native.Nat.{ℕ}
use mathlib.Core.List.{List, [], ◌∷◌, map}
use Rattle.field.specs.Poly.{product as polynomials, times, left}
use Rattle.field.specs.Field.{inverse_below, inv, F16, F256, field_of}
use Rattle.sharing.specs.Run.{run}
use Rattle.sharing.specs.Rules.{scaled}
use Rattle.sharing.specs.Lists.{joined}
use Rattle.table.specs.Layout.{cell, part, put}
use Rattle.table.specs.Steps.{lift_turn, lift}
use Rattle.algebra.specs.Linear.{Answer, solved, stopped}
use Rattle.verdict.specs.Told.{refused, line, ◌or◌}
use Rattle.verdict.specs.Cells.{cell_at}
use Rattle.verdict.specs.Refusals.{outside, first_place, too_large, no1, no3, no4, no5, no6, buffers}
use Rattle.plain.specs.Calls.{plain_order}
use Rattle.plain.specs.Elimination.{at, seek, exchange, scale, clear, clear_below, column, eliminate, unknowns, Solution, conclude, solves}

-- field, size, values, and the bytes that stand in the solution before
pub record System : Type 0 where
  pub field : ℕ
  pub size : ℕ
  pub values : List ℕ
  pub found : List ℕ

abbrev system : ℕ → ℕ → List ℕ → List ℕ → System
system f m values x = record { field = f; size = m; values = values; found = x }

abbrev ends : Answer → List ℕ → Solution
ends a x = record { answer = a; solution = x }

pub record Row : Type 0 where
  pub given : System
  pub ending : Solution

abbrev row : System → Solution → Row
row s e = record { given = s; ending = e }

pub systems : List Row
systems =
    row (system 16 1 (2 ∷ 3 ∷ []) (9 ∷ [])) (ends solved (8 ∷ []))
    ∷ row (system 16 2 (0 ∷ 1 ∷ 5 ∷ 1 ∷ 0 ∷ 7 ∷ []) (9 ∷ 9 ∷ [])) (ends solved (7 ∷ 5 ∷ []))
    ∷ row (system 16 2 (1 ∷ 2 ∷ 1 ∷ 2 ∷ 4 ∷ 2 ∷ []) (9 ∷ 9 ∷ [])) (ends (stopped 2) (0 ∷ 0 ∷ []))
    ∷ row (system 16 3 (0 ∷ 0 ∷ 2 ∷ 4 ∷ 0 ∷ 3 ∷ 1 ∷ 7 ∷ 5 ∷ 1 ∷ 1 ∷ 9 ∷ []) (9 ∷ 9 ∷ 9 ∷ [])) (ends solved (7 ∷ 3 ∷ 2 ∷ []))
    ∷ row (system 256 2 (0 ∷ 2 ∷ 1 ∷ 3 ∷ 0 ∷ 0x57 ∷ []) (9 ∷ 9 ∷ [])) (ends solved (0xc4 ∷ 0x8d ∷ []))
    ∷ row (system 256 3 (1 ∷ 2 ∷ 3 ∷ 9 ∷ 2 ∷ 4 ∷ 6 ∷ 1 ∷ 7 ∷ 7 ∷ 1 ∷ 5 ∷ []) (9 ∷ 9 ∷ 9 ∷ [])) (ends (stopped 3) (0 ∷ 0 ∷ 0 ∷ []))
    ∷ []

pub examples : map (λ r. let s = r.given in solves s.field s.size s.values s.found) systems ≡ map (λ r. r.ending) systems
unfolding systems polynomials times left inverse_below inv F16 F256 field_of run scaled joined cell part put lift_turn lift at seek exchange scale clear clear_below column eliminate unknowns conclude solves
examples = refl

-- R-2: the last of the values is 16
pub last-cell : plain_order 16 2 (0 ∷ 1 ∷ 5 ∷ 1 ∷ 0 ∷ 16 ∷ []) 2 ≡ refused (line 6 (2 ∷ 3 ∷ 0 ∷ []))
unfolding F16 field_of ◌or◌ cell_at outside first_place too_large no1 no3 no4 no5 no6 buffers plain_order
last-cell = refl
