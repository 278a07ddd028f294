-- What a wide step opens and what it leaves of the table hang on the table and on its own draws alone, on no other draw, and for a Lift on its byte
-- of the solution: the square's law, on the row that the pivots give.
-- Assumes nothing.
use mathlib.Core.List.{List}
use mathlib.Core.Path.{◌≡◌}
use Prim.Native.Nat.{ℕ, ◌+◌}
use native.Mathlib.Omega.{arith}
use lib.ListN.{length}
use Rattle.field.specs.Field.{field_of}
use Rattle.sharing.specs.Lists.{SameDraws}
use Rattle.course.specs.declared.Step.{Step}
use Rattle.course.specs.StepList.{column_of}
use Rattle.walk.specs.Act.{held}
use Rattle.pattern.specs.declared.WideOrder.{WideOrder}
use Rattle.pattern.specs.declared.WidePlace.TheVariants.{At}
use Rattle.pattern.specs.declared.WideProgress.{WideProgress}
use Rattle.pattern.specs.Pivots.{row_of, listed}
use Rattle.pattern.specs.PatternList.{Sizes, cost_of, mask_cost, nonzero_cost}
use Rattle.pattern.proofs.Placed.{Places}
use Rattle.pattern.proofs.Moving.{Standing, places-at}
use Rattle.wide_walk.specs.WideWalk.{opened, acted}
use Rattle.wide_walk.proofs.Walked.{other_row}
use Rattle.wide.specs.WideRefusals.{whole_table}
use Rattle.trace.proofs.Own.{SameRead, opens_own, leaves-own}

module _ (o : WideOrder) (z : Sizes o) {p : WideProgress} (s : Step) (e : p.place ≡ At s) (g : Standing o p) (t : List ℕ)
    (whole : length t ≡ whole_table o) {ds es : List ℕ} (d : SameDraws (field_of o.field) (mask_cost o s) ds es) where
  abbrev ps : List ℕ
  ps = listed p.pivots

  here : Places o ps s
  here = places-at o z s e g

  pub opened-own : (x y : List ℕ) → opened o ps s ds (held t x) ≡ opened o ps s es (held t y)
  unfolding opened cost_of
  opened-own =
      opens_own o.field o.shares o.rows (o.columns + 1) (row_of ps (column_of s)) (here.row_low, here.row_high) t whole s
      here.column_low (omega (arith, here.column_high)) d

  pub table-own : {nz mz : List ℕ} → SameDraws (field_of o.field) (nonzero_cost o s) nz mz → (x y : List ℕ) → SameRead s x y
      → (acted o ps s ds nz (held t x)).table ≡ (acted o ps s es mz (held t y)).table
  unfolding acted cost_of
  table-own =
      leaves-own o.field o.shares o.rows (o.columns + 1) (row_of ps (column_of s)) (here.row_low, here.row_high) t whole s
      (other_row _ _ s here.other) here.column_low (omega (arith, here.column_high)) d
