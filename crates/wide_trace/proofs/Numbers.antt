-- By which numbers a wide call can be refused: each call by those of its order, and a step call by a number whose own check refuses.
-- Assumes nothing.
use mathlib.Core.Bool.{true, not}
use mathlib.Core.List.{List, [], ◌∷◌}
use mathlib.Core.Path.{◌≡◌, refl}
use Prim.Native.Nat.{ℕ, ◌-◌}
use lib.Dec.{eqb}
use lib.ListN.{length, take, get_or}
use Rattle.field.specs.Field.{field_of}
use Rattle.sharing.specs.Rules.{sum}
use Rattle.table.specs.Layout.{entry}
use Rattle.course.specs.declared.Step.TheVariants.{Mix, Check, Scale, Clear, Open, Lift}
use Rattle.pattern.specs.declared.WideOrder.{WideOrder}
use Rattle.pattern.specs.declared.WidePlace.{WidePlace}
use Rattle.pattern.specs.declared.WidePlace.TheVariants.{At, Short, Done}
use Rattle.pattern.specs.declared.WideProgress.{WideProgress}
use Rattle.pattern.specs.Pivots.{row_of, listed}
use Rattle.pattern.specs.PatternList.{wanted}
use Rattle.pattern.specs.Next.{placed, counted}
use Rattle.verdict.specs.Told.{Told, passed}
use Rattle.verdict.specs.Refusals.{differs, outside, too_large, no2, no3, no4, no5, no6, no7, no8, no9, no14, no15, no21, buffers, exactly, at_least}
use Rattle.solver.specs.Refusals.{lift_refused}
use Rattle.wide.specs.WideRefusals.{no1, sizes, whole_table, table_rows, solve_order, cost_at, ended, no10, no19, no11, no20, scale_refused, no12, standing, wanted_order, placing, step_order}
use Rattle.trace.specs.Numbers.{one_of, Among, Gives}
use Rattle.trace.proofs.Numbers.{no_refusal, Numbered, numbered, two, three, four, five, six, seven, eight, nine, fourteen, fifteen, ◌then◌, in_list_lem, AtNumber, here}

-- ---- the checks that are not the square calls'

one : (f : ℕ) → Numbered 1 (no1 f)
unfolding no1
one f = numbered 1 (differs f 16) _

twenty_one : (rows columns : ℕ) → Numbered 21 (no21 rows columns)
unfolding no21
twenty_one rows columns = numbered 21 (outside rows 144 columns) _

ten : (p : WideProgress) → Numbered 10 (no10 p)
unfolding no10
ten p = numbered 10 (not (placed p)) _

nineteen : (p : WideProgress) → Numbered 19 (no19 p)
unfolding no19
nineteen p = numbered 19 (not (counted p)) _

eleven : (p : WidePlace) → Numbered 11 (no11 p)
unfolding no11
eleven p = numbered 11 (ended p) _

passes : (k : ℕ) → Numbered k passed
passes k = record { number = λ l g. absurd (no_refusal g) }

twelve : (o : WideOrder) (ps : List ℕ) (p : WidePlace) (t : List ℕ) → Numbered 12 (no12 o ps p t)
unfolding no12 scale_refused
twelve o ps (At (Mix j k)) t = passes 12
twelve o ps (At (Check j)) t = passes 12
twelve o ps (At (Scale j)) t = numbered 12 (eqb (sum (field_of o.field) (entry o.shares _ (row_of ps j) j t)) 0) _
twelve o ps (At (Clear j k)) t = passes 12
twelve o ps (At (Open j)) t = passes 12
twelve o ps (At (Lift j)) t = passes 12
twelve o ps Short t = passes 12
twelve o ps Done t = passes 12

twenty : (o : WideOrder) (p : WidePlace) (x : List ℕ) → Numbered 20 (no20 o p x)
unfolding no20 lift_refused
twenty o (At (Mix j k)) x = passes 20
twenty o (At (Check j)) x = passes 20
twenty o (At (Scale j)) x = passes 20
twenty o (At (Clear j k)) x = passes 20
twenty o (At (Open j)) x = passes 20
twenty o (At (Lift j)) x = numbered 20 (too_large o.field (get_or x (j - 1) 0)) _
twenty o Short x = passes 20
twenty o Done x = passes 20

-- ---- an order gives the numbers of its checks

module _ (ns : List ℕ) where
  sizes_in : (o : WideOrder) → one_of 1 ns ≡ true → one_of 2 ns ≡ true → one_of 3 ns ≡ true → one_of 21 ns ≡ true → Gives (Among ns) (sizes o)
  unfolding sizes
  sizes_in o a b c d =
      in_list_lem ns a (one o.field) then in_list_lem ns b (two o.shares) then in_list_lem ns c (three o.rows)
      then in_list_lem ns d (twenty_one o.rows o.columns)

-- Start, and the lengths that a whole solve wants
pub sizes_give : (o : WideOrder) → Gives (Among (1 ∷ 2 ∷ 3 ∷ 21 ∷ [])) (sizes o)
unfolding one_of
sizes_give o = sizes_in _ o refl refl refl refl

pub solve_gives : (o : WideOrder) (t : List ℕ) (solution mask : ℕ) (nonzero : List ℕ)
    → Gives (Among (1 ∷ 2 ∷ 3 ∷ 21 ∷ 4 ∷ 5 ∷ 6 ∷ 7 ∷ 8 ∷ 9 ∷ [])) (solve_order o t solution mask nonzero)
unfolding solve_order buffers at_least one_of
solve_gives o t solution mask nonzero =
    sizes_in _ o refl refl refl refl
    then (in_list_lem _ refl (four (whole_table o) (length t)) then in_list_lem _ refl (five o.columns solution) then in_list_lem _ refl (six o.field (table_rows o) t)
    then (in_list_lem _ refl (seven (wanted o).mask mask) then in_list_lem _ refl (eight (wanted o).nonzero (length nonzero)) then in_list_lem _ refl (nine o.field (take (wanted o).nonzero nonzero))))

pub wanted_gives : (p : WideProgress) → Gives (Among (1 ∷ 2 ∷ 3 ∷ 21 ∷ 10 ∷ 19 ∷ 11 ∷ [])) (wanted_order p)
unfolding wanted_order standing one_of
wanted_gives p =
    sizes_in _ p.order refl refl refl refl
    then (in_list_lem _ refl (ten p) then (in_list_lem _ refl (nineteen p) then in_list_lem _ refl (eleven p.place)))

-- ---- Step, by what is lent

module _ (r : WideProgress) (t x : List ℕ) (mask : ℕ) (nonzero : List ℕ) where
  abbrev o : WideOrder
  o = r.order

  abbrev p : WidePlace
  p = r.place

  -- its checks, each at its number; 13 is desk's, and 16 to 18 are those of Read
  abbrev pub checks : List Told
  checks =
      passed
      ∷ no1 o.field
      ∷ no2 o.shares
      ∷ no3 o.rows
      ∷ no4 (whole_table o) (length t)
      ∷ no5 o.columns (length x)
      ∷ no6 o.field (table_rows o) t
      ∷ no7 (cost_at o p).mask mask
      ∷ no8 (cost_at o p).nonzero (length nonzero)
      ∷ no9 o.field nonzero
      ∷ no10 r
      ∷ no11 p
      ∷ no12 o (listed r.pivots) p t
      ∷ passed
      ∷ no14 (cost_at o p).mask mask
      ∷ no15 (cost_at o p).nonzero (length nonzero)
      ∷ passed
      ∷ passed
      ∷ passed
      ∷ no19 r
      ∷ no20 o p x
      ∷ no21 o.rows o.columns
      ∷ []

  at : {k : ℕ} {v : Told} → get_or checks k passed ≡ v → Numbered k v → Gives (AtNumber checks) v
  at = here checks

  pub by_number : Gives (AtNumber checks) (step_order r t x mask nonzero)
  unfolding step_order sizes placing standing exactly
  by_number =
      at refl (one o.field) then at refl (two o.shares) then at refl (three o.rows) then at refl (twenty_one o.rows o.columns)
      then (at refl (four (whole_table o) (length t)) then at refl (five o.columns (length x)) then (at refl (ten r) then (at refl (nineteen r) then at refl (eleven p)))
      then (at refl (six o.field (table_rows o) t)
      then (at refl (seven (cost_at o p).mask mask)
      then at refl (fourteen (cost_at o p).mask mask)
      then at refl (eight (cost_at o p).nonzero (length nonzero))
      then at refl (fifteen (cost_at o p).nonzero (length nonzero))
      then at refl (nine o.field nonzero)
      then (at refl (twenty o p x) then at refl (twelve o (listed r.pivots) p t)))))
