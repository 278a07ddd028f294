-- What a step keeps: the lengths of what it is lent, elements as elements. And what a step of the list asks of the table: its sizes and the places
-- that the step meets.
-- Assumes nothing.
use mathlib.Core.Bool.{true}
use mathlib.Core.List.{List}
use mathlib.Core.Path.{◌≡◌, refl, ◌∙◌}
use Prim.Native.Nat.{ℕ, ◌+◌, ◌-◌, ◌<◌, ◌≤◌}
use native.Mathlib.Omega.{arith}
use lib.ListN.{length, get_or, length-set}
use Rattle.field.specs.Field.{field_of}
use Rattle.sharing.specs.Lists.{Below}
use Rattle.table.specs.Layout.{Bounded, Inside, table_bytes}
use Rattle.table.proofs.Lengths.{mix-length, scale-length, clear-length, lift-length}
use Rattle.table.proofs.Elements.{mix_below, scale_below, clear_below_lem, lift_below}
use Rattle.course.specs.declared.Step.{Step}
use Rattle.course.specs.declared.Step.TheVariants.{Mix, Check, Scale, Clear, Open, Lift}
use Rattle.course.specs.declared.Order.{Order}
use Rattle.course.specs.StepList.{Sizes, in_list, column_of, Revealed, None, Flag, Pivot, Unknown, revealed_by}
use Rattle.course.proofs.Within.{Within, within, column_in}
use Rattle.walk.specs.Act.{Held, Row, OtherRow, written, step_opens, step_leaves, acted}

-- a row and a column of a table
pub inside : {rows w r c : ℕ} → Row rows r → 1 ≤ c → c ≤ w → Inside rows w r c
inside R a b = record { row_low = R.0; row_high = R.1; column_low = a; column_high = b }

module _ (f n w r : ℕ) where
  module _ {rows : ℕ} (R : Row rows r) where
    pub leaves_sized : (s : Step) → OtherRow rows s → 1 ≤ column_of s → column_of s < w → (ds nz : List ℕ) (h : Held)
        → length h.table ≡ table_bytes n rows w → length (step_leaves f n w r s ds nz h).table ≡ table_bytes n rows w
    unfolding step_leaves
    leaves_sized (Mix j k) u a b ds nz h l = mix-length n rows w h.table l f (inside R a (omega arith)) k ds
    leaves_sized (Check j) u a b ds nz h l = l
    leaves_sized (Scale j) u a b ds nz h l = scale-length n rows w h.table l f (inside R a (omega arith)) nz ds
    leaves_sized (Clear j k) u a b ds nz h l = clear-length n rows w h.table l f (inside u a (omega arith)) r ds
    leaves_sized (Open j) u a b ds nz h l = l
    leaves_sized (Lift j) u a b ds nz h l = lift-length n rows w h.table l f (inside R a (omega arith)) (get_or h.solution (j - 1) 0)

  written-length : (x : Revealed) (v : ℕ) (l : List ℕ) → length (written x v l) ≡ length l
  written-length None v l = refl
  written-length (Flag j) v l = refl
  written-length (Pivot j) v l = refl
  written-length (Unknown j) v l = length-set l (j - 1) v

  pub leaves-places : (s : Step) (ds nz : List ℕ) (h : Held) → length (step_leaves f n w r s ds nz h).solution ≡ length h.solution
  unfolding step_leaves
  leaves-places s ds nz h = written-length (revealed_by s) (step_opens f n w r s ds h) h.solution

  pub leaves_below : (s : Step) (ds nz : List ℕ) (h : Held) → Below (field_of f).q h.table
      → Below (field_of f).q (step_leaves f n w r s ds nz h).table
  unfolding step_leaves
  leaves_below (Mix j k) ds nz h b = mix_below f n w r j k ds h.table b
  leaves_below (Check j) ds nz h b = b
  leaves_below (Scale j) ds nz h b = scale_below f n w r j nz ds h.table b
  leaves_below (Clear j k) ds nz h b = clear_below_lem f n w r j k ds h.table b
  leaves_below (Open j) ds nz h b = b
  leaves_below (Lift j) ds nz h b = lift_below f n w r j (get_or h.solution (j - 1) 0) h.table b

-- ---- the square system of an order

-- m rows of m+1 columns
pub square : {o : Order} → Sizes o → Bounded o.shares o.size (o.size + 1)
square z =
    record {
      shares_low = z.two;
      fits = record { shares_high = z.four; rows_high = z.most; width_high = omega (arith, z.most) };
    }

-- the pivot's place in column j, and that of a row below it
module _ {m j : ℕ} where
  pub pivot : 1 ≤ j → j ≤ m → Inside m (m + 1) j j
  pivot a b = inside (a, b) a (omega arith)

  pub under : {k : ℕ} → 1 ≤ j → j < k → k ≤ m → Inside m (m + 1) k j
  under a b c = inside (omega arith, c) a (omega arith)

-- the row of a step of the list, and its other row
pub other_row : (m : ℕ) (s : Step) → Within m s → OtherRow m s
other_row m (Mix j k) u = (omega arith, u.2)
other_row m (Check j) u = tt
other_row m (Scale j) u = tt
other_row m (Clear j k) u = (omega arith, u.2)
other_row m (Open j) u = tt
other_row m (Lift j) u = tt

-- the table and the solution of an order
pub record Lengths (o : Order) (h : Held) : Type 0 where
  pub table : length h.table ≡ table_bytes o.shares o.size (o.size + 1)
  pub solution : length h.solution ≡ o.size

module _ (o : Order) where
  abbrev m : ℕ
  m = o.size

  pub acted_sized : (s : Step) → Within m s → (ds nz : List ℕ) (h : Held)
      → length h.table ≡ table_bytes o.shares m (m + 1) → length (acted o s ds nz h).table ≡ table_bytes o.shares m (m + 1)
  unfolding acted
  acted_sized s u =
      let c = column_in m s u in leaves_sized o.field o.shares (m + 1) (column_of s) c s (other_row m s u) c.0 (omega arith)

  pub acted-places : (s : Step) (ds nz : List ℕ) (h : Held) → length (acted o s ds nz h).solution ≡ length h.solution
  unfolding acted
  acted-places s = leaves-places o.field o.shares (m + 1) (column_of s) s

  pub acted-length : (s : Step) → in_list m s ≡ true → (ds nz : List ℕ) (h : Held) → Lengths o h → Lengths o (acted o s ds nz h)
  acted-length s i ds nz h l =
      record { table = acted_sized s (within m s i) ds nz h l.table; solution = acted-places s ds nz h ∙ l.solution }

  pub acted_below : (s : Step) (ds nz : List ℕ) (h : Held) → Below (field_of o.field).q h.table
      → Below (field_of o.field).q (acted o s ds nz h).table
  unfolding acted
  acted_below s = leaves_below o.field o.shares (m + 1) (column_of s) s
