-- What the checks of a call pass: from facts about what is lent to a pass of each order. Solver's Ready goes the other way.
-- Assumes nothing.
use mathlib.Core.Bool.{true, false, not}
use mathlib.Core.List.{List}
use mathlib.Core.Path.{◌≡◌, ap}
use Prim.Native.Nat.{ℕ, ◌<◌, ◌≤◌}
use lib.ListN.{length}
use Rattle.field.specs.Field.{field_of}
use Rattle.sharing.specs.Rules.{draw_at}
use Rattle.sharing.specs.Lists.{Below}
use Rattle.course.specs.declared.Order.{Order}
use Rattle.course.specs.declared.Progress.{Progress}
use Rattle.course.specs.StepList.{Sizes, full_mask, full_nonzero}
use Rattle.course.specs.Next.{order_of, counted}
use Rattle.meaning.specs.Claims.{NoZero}
use Rattle.verdict.specs.Told.{passed}
use Rattle.verdict.specs.Refusals.{no4, no5}
use Rattle.solver.specs.Refusals.{placed, ended, entries, whole_table, table_rows, mask_at, nonzero_at, revealed_at, zero_pivot, no10, no11, no20, no12, no19, sizes, gather_order, tapes, solve_order, standing, placing, lending, step_order}
use Rattle.verdict.proofs.Passes.{unmet, numbers_pass, right-length, six_passes, nine_passes, buffers_pass, exactly_passes, at_least_passes, ◌and◌}

pub sizes_pass : (o : Order) → Sizes o → sizes o ≡ passed
sizes_pass o z =
    numbers_pass o.field o.shares o.size
    (record { field = z.field; two = z.two; four = z.four; some = z.some; most = z.most })

module _ (o : Order) (z : Sizes o) (t : List ℕ) (whole : length t ≡ whole_table o) (elements : Below (field_of o.field).q t) where
  pub gather_passes : (target : ℕ) → target ≡ entries o.size → gather_order o t target ≡ passed
  unfolding gather_order
  gather_passes target e = sizes_pass o z and buffers_pass o.field (whole_table o) t (entries o.size) target (table_rows o) whole e elements

  pub solve_passes : (solution mask : ℕ) (nonzero : List ℕ) → solution ≡ o.size → full_mask o ≤ mask → full_nonzero o ≤ length nonzero
      → NoZero o nonzero → solve_order o t solution mask nonzero ≡ passed
  unfolding solve_order tapes
  solve_passes solution mask nonzero a b c d =
      sizes_pass o z
      and (buffers_pass o.field (whole_table o) t o.size solution (table_rows o) whole a elements
      and at_least_passes o.field (full_mask o) (full_nonzero o) mask nonzero (record { masks = b; others = c; drawn = d }))

pub step_passes : (p : Progress) → Sizes (order_of p) → (t : List ℕ) → length t ≡ whole_table (order_of p) → Below (field_of p.field).q t
    → (x : List ℕ) (mask : ℕ) (nonzero : List ℕ) → placed p.size p.place ≡ true → counted p ≡ true → ended p.place ≡ false
    → no20 (order_of p) p.place x ≡ passed → zero_pivot (order_of p) (revealed_at p.place) t ≡ false
    → length x ≡ p.size → mask ≡ mask_at (order_of p) p.place → length nonzero ≡ nonzero_at (order_of p) p.place
    → ((k : ℕ) → k < length nonzero → draw_at (field_of p.field) nonzero k ≡ 0 → ⊥)
    → step_order p t x mask nonzero ≡ passed
unfolding step_order placing standing lending no4 no5 no10 no11 no12 no19
step_passes p z t whole elements x mask nonzero listed matched runs lifts pivot a b c d =
    sizes_pass (order_of p) z
    and (right-length 4 _ whole and right-length 5 _ a and (unmet 10 _ (ap not listed) and (unmet 19 _ (ap not matched) and unmet 11 _ runs))
    and (six_passes p.field (table_rows (order_of p)) t elements
    and (exactly_passes p.field (mask_at (order_of p) p.place) (nonzero_at (order_of p) p.place) mask nonzero
    (record { masks = b; others = c; nonzeros = nine_passes p.field nonzero d })
    and (lifts and unmet 12 _ pivot))))
