-- In F256 every byte is an element: of 6 01 says that it "never occurs in F256", and R-7 of 20 that "in F256 it never occurs". Whatever the
-- record, the place and the bytes are.
-- Assumes nothing.
use mathlib.Core.List.{List}
use mathlib.Core.Logic.{⊎_elim}
use mathlib.Core.Path.{◌≡◌, refl, ap, ◌∙◌}
use Prim.Native.Nat.{ℕ, ◌-◌}
use Rattle.field.specs.Field.{F256, field_of}
use Rattle.sharing.specs.Lists.{Below}
use Rattle.course.specs.declared.Step.TheVariants.{Lift}
use Rattle.course.specs.declared.Place.{Place}
use Rattle.course.specs.declared.Place.TheVariants.{At}
use Rattle.course.specs.declared.Order.{Order}
use Rattle.verdict.specs.Told.{passed}
use Rattle.verdict.proofs.Passes.{six_passes}
use Rattle.solver.specs.Refusals.{table_rows, no20}
use Rattle.solver.proofs.Ready.{lift-or_not}
use Rattle.trace.specs.Driving.{Beside}
use Rattle.trace.specs.Trace.{Host, order_in, Never}
use Rattle.trace.proofs.Pivot.{lift_passes}
use Rattle.trace.proofs.Trace.{never}

-- a solution of elements
twenty_passes : (o : Order) (p : Place) (x : List ℕ) → Below (field_of o.field).q x → no20 o p x ≡ passed
twenty_passes o p x b =
    ⊎_elim (λ (l : (j : ℕ) × (p ≡ At (Lift j))). rw l.1 (lift_passes o l.0 x (b.at (l.0 - 1)))) (λ e. e) (lift-or_not o p x)

elements : (field_of 256).q ≡ 256
unfolding field_of F256
elements = refl

module _ (h : Host) (c : Beside) (f : (order_in h).field ≡ 256) where
  size : (field_of (order_in h).field).q ≡ 256
  size = ap (λ (q : ℕ). (field_of q).q) f ∙ elements

  pub never_large_entry : Below 256 h.table → Never 6 h c
  never_large_entry b = never h c 6 (six_passes (order_in h).field (table_rows (order_in h)) h.table (rw (← size) at b))

  pub never_large_unknown : Below 256 h.solution → Never 20 h c
  never_large_unknown b = never h c 20 (twenty_passes (order_in h) h.progress.place h.solution (rw (← size) at b))
