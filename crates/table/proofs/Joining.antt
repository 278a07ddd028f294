-- To join k + l columns is to join the l behind the first k, and then these. Each column's bytes are its own, so this holds of a row and
-- itself too.
-- Assumes nothing.
use mathlib.Core.Path.{◌≡◌, sym, ap, ◌∙◌, subst⁻¹}
use mathlib.Core.Logic.{◌⊎◌, ⊎_elim}
use mathlib.Core.Bool.{Bool}
use Prim.Native.Nat.{ℕ, ◌+◌, ◌-◌, ◌*◌, ◌<◌, ◌≤◌}
use mathlib.Core.List.{List, ◌++◌}
use native.Mathlib.Omega.{arith}
use native.Mathlib.Decide.{dec_lt}
use native.Mathlib.Nat.{le_refl, add-mul}
use lib.ListN.{length, drop, length-append}
use lib.Seq.{drop-drop}
use Rattle.field.specs.Field.{Ops}
use Rattle.sharing.specs.Run.{pairs}
use Rattle.sharing.specs.Rules.{product}
use Rattle.sharing.specs.Lists.{joined}
use Rattle.table.specs.Layout.{part, put}
use Rattle.table.specs.Steps.{signed, join_turn, join_row}
use Rattle.table.specs.Code.Joining.{join_part}
use Rattle.table.proofs.Parts.{part_length, part-part, part-first, part-second, part-before, part-behind, put-before}
use Rattle.table.proofs.Cells.{column_in}
use Rattle.table.proofs.Columns.{columns_ext, over_columns-at}
use Rattle.table.proofs.Lengths.{join_keeps, join_row-length}

module _ (F : Ops) (minus : Bool) (n : ℕ) (factor t : List ℕ) where
  -- what the columns from byte p on become
  new : ℕ → ℕ → ℕ → List ℕ → List ℕ
  new columns p o ds = join_row F minus n columns ds factor (part (columns * n) o t) (part (columns * n) p t)

  new_length : (columns p o : ℕ) (ds : List ℕ) → p + columns * n ≤ length t → length (new columns p o ds) ≡ columns * n
  unfolding new
  new_length columns p o ds h =
      join_row-length F n columns _ (part_length (columns * n) p t h) minus ds factor (part (columns * n) o t)

  -- column u of these
  new_at : (columns p o : ℕ) (ds : List ℕ) → p + columns * n ≤ length t → (u : ℕ) → u < columns
      → part n (u * n) (new columns p o ds)
      ≡ joined (signed F minus) (part n (p + u * n) t) (product F (drop (u * pairs n) ds) factor (part n (o + u * n) t))
  unfolding new join_row join_turn
  new_at columns p o ds h u l =
      let k = columns * n in
      over_columns-at n _ (join_keeps F n minus ds factor (part k o t)) columns _ (part_length k p t h) u l
      ∙ rw (part-part n (u * n) k p t (column_in n l), part-part n (u * n) k o t (column_in n l))

  module _ (k l p o : ℕ) (ds : List ℕ) (h : p + (k + l) * n ≤ length t) where
    -- the first k columns, and the l behind them
    x : List ℕ
    x = new k p o ds

    y : List ℕ
    y = new l (p + k * n) (o + k * n) (drop (k * pairs n) ds)

    first : p + k * n ≤ length t
    first = omega (arith, add-mul k l n)

    second : p + k * n + l * n ≤ length t
    second = omega (arith, add-mul k l n)

    lx : length x ≡ k * n
    unfolding x
    lx = new_length k p o ds first

    ly : length y ≡ l * n
    unfolding y
    ly = new_length l (p + k * n) (o + k * n) _ second

    x-at : (u : ℕ) → u < k → part n (u * n) (new (k + l) p o ds) ≡ part n (u * n) (x ++ y)
    unfolding x
    x-at u g =
        new_at (k + l) p o ds h u (omega arith)
        ∙ sym (part-first n (u * n) x y (omega (arith, lx, column_in n g)) ∙ new_at k p o ds first u g)

    y_at : (u : ℕ) → u < l → part n ((k + u) * n) (new (k + l) p o ds) ≡ part n ((k + u) * n) (x ++ y)
    unfolding y
    y_at u g =
        let e : (i : ℕ) → i + (k + u) * n ≡ i + k * n + u * n = λ i. omega (arith, add-mul k u n) in
        new_at (k + l) p o ds h (k + u) (omega arith)
        ∙ rw (e p, e o, add-mul k u (pairs n), ← drop-drop (u * pairs n) (k * pairs n) ds)
        (sym (ap (λ (i : ℕ). part n i (x ++ y)) (add-mul k u n) ∙ part-second n (u * n) (k * n) x y lx ∙ new_at l (p + k * n) (o + k * n) _ second u g))

    both : new (k + l) p o ds ≡ x ++ y
    both =
        columns_ext n (k + l) _ _ (new_length (k + l) p o ds h) (length-append x y ∙ omega (arith, lx, ly, add-mul k l n))
        (λ u g. elim (dec_lt u k) [
          | yes m ↦ x-at u m
          | no m ↦
              let e : u ≡ k + (u - k) = omega arith in
              subst⁻¹ (λ (i : ℕ). part n (i * n) (new (k + l) p o ds) ≡ part n (i * n) (x ++ y)) e (y_at (u - k) (omega arith))
        ])

    pub join-add : (o ≤ p) ⊎ (p + (k + l) * n ≤ o)
        → join_part F minus n k p o factor ds (join_part F minus n l (p + k * n) (o + k * n) factor (drop (k * pairs n) ds) t)
        ≡ join_part F minus n (k + l) p o factor ds t
    unfolding join_part new x y
    join-add apart =
        let a : part (k * n) p (put (l * n) (p + k * n) y t) ≡ part (k * n) p t =
        part-before (l * n) (p + k * n) y t ly second (k * n) p (le_refl _) in
        let b : part (k * n) o (put (l * n) (p + k * n) y t) ≡ part (k * n) o t =
        ⊎_elim (λ (g : o ≤ p). part-before (l * n) (p + k * n) y t ly second (k * n) o (omega arith))
        (λ (g : p + (k + l) * n ≤ o). part-behind (l * n) (p + k * n) y t ly second (k * n) o (omega (arith, add-mul k l n))) apart in
        rw (a, b, put-before (k * n) (l * n) p x y t first, ← add-mul k l n, ← both)
