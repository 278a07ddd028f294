-- `table::join_rows` meets its contract: whether or not columns behind the first k were joined before, joining these k leaves the whole row
-- joined. Assumes nothing.
use mathlib.Core.Path.{◌≡◌, refl, ap, ◌∙◌}
use mathlib.Core.Logic.{◌⊎◌}
use mathlib.Core.Bool.{Bool}
use Prim.Native.Nat.{ℕ, ◌+◌, ◌-◌, ◌*◌, ◌<◌, ◌≤◌}
use mathlib.Core.List.{List}
use native.Mathlib.Omega.{arith}
use native.Mathlib.Nat.{le_refl, add-mul, mul-le-mul_right}
use lib.ListN.{length, take, drop}
use Rattle.field.specs.Field.{Ops, field_of}
use Rattle.sharing.specs.Run.{pairs}
use Rattle.sharing.specs.Bounds.{most_width}
use Rattle.sharing.proofs.Loops.{rest}
use Rattle.table.specs.Layout.{columns_from}
use Rattle.table.specs.Steps.{join_rows}
use Rattle.table.specs.Code.Joining.{join_part}
use Rattle.table.proofs.Cells.{row_in, row_apart}
use Rattle.table.proofs.Joining.{join-add}
use Rattle.table.proofs.join_rows.Goals as goal
use Rattle.table.proofs.join_rows.Goals.{then-columns-gt-MOST_WIDTH, else-columns-gt-MOST_WIDTH}

-- ---- the columns behind the first

parts : (columns n : ℕ) → most_width < columns → columns * n ≡ most_width * n + (columns - most_width) * n
parts columns n h =
    let e : columns ≡ most_width + (columns - most_width) = omega arith in
    ap (λ (k : ℕ). k * n) e ∙ add-mul most_width (columns - most_width) n

-- ---- the first k columns, of a table s that t has become
record First (F : Ops) (minus : Bool) (n columns p o : ℕ) (factor ds t : List ℕ) (k : ℕ) (s : List ℕ) : Type 0 where
  some : 1 ≤ k
  most : k ≤ most_width
  fits : (x : ℕ) → k * x ≤ columns * x
  size : length s ≡ length t
  whole : join_part F minus n k p o factor ds s ≡ join_part F minus n columns p o factor ds t

module _ {F : Ops} {minus : Bool} {n columns p o : ℕ} {factor ds t : List ℕ} {k : ℕ} {s : List ℕ} where
  narrow : 1 ≤ columns → columns ≤ most_width → s ≡ t → k ≡ columns → First F minus n columns p o factor ds t k s
  narrow g h es ek = rw (es, ek) (record { some = g; most = h; fits = λ x. le_refl (columns * x); size = refl; whole = refl })

  wide : (d : ℕ) → most_width < columns → p + columns * n ≤ length t → (o ≤ p) ⊎ (p + columns * n ≤ o) → length s ≡ length t → d ≡ pairs n
      → s ≡ join_part F minus n (columns - most_width) (p + most_width * n) (o + most_width * n) factor (take (length ds - most_width * d) (drop (most_width * d) ds)) t
      → k ≡ most_width → First F minus n columns p o factor ds t k s
  wide d h g apart l ed es ek =
      let e : most_width + (columns - most_width) ≡ columns = omega arith in
      record {
        some = omega arith;
        most = omega arith;
        fits = λ x. mul-le-mul_right x (omega arith);
        size = l;
        whole =
            rw (ek, es, rest (most_width * d) ds, ed)
            (rw e at (join-add F minus n factor t most_width (columns - most_width) p o ds (rw e g) (rw e apart)));
      }

pub overflow_add-p : goal.overflow_add-p
overflow_add-p g c =
    let row-a : c.cell-p.result + columns_from c.args.shape.columns c.args.j * c.args.shape.shares ≤ length c.args.table.now =
    omega (arith, row_in c.args.shape.shares c.requires.inside.0) in
    let row-b : c.cell-o.result + columns_from c.args.shape.columns c.args.j * c.args.shape.shares ≤ length c.args.table.now =
    omega (arith, row_in c.args.shape.shares c.requires.inside.1) in
    let within : (c.cell-p.result + (most_width * c.args.shape.shares + (columns_from c.args.shape.columns c.args.j - most_width) * c.args.shape.shares) ≤ length c.args.table.now) × (c.cell-o.result + (most_width * c.args.shape.shares + (columns_from c.args.shape.columns c.args.j - most_width) * c.args.shape.shares) ≤ length c.args.table.now) =
    let x = c.args in rw (← parts (columns_from x.shape.columns x.j) x.shape.shares c.if-columns-gt-MOST_WIDTH.true) (row-a, row-b) in
    omega (arith, within.0)

pub overflow_add-o : goal.overflow_add-o
overflow_add-o g c =
    let row-a : c.cell-p.result + columns_from c.args.shape.columns c.args.j * c.args.shape.shares ≤ length c.args.table.now =
    omega (arith, row_in c.args.shape.shares c.requires.inside.0) in
    let row-b : c.cell-o.result + columns_from c.args.shape.columns c.args.j * c.args.shape.shares ≤ length c.args.table.now =
    omega (arith, row_in c.args.shape.shares c.requires.inside.1) in
    let within : (c.cell-p.result + (most_width * c.args.shape.shares + (columns_from c.args.shape.columns c.args.j - most_width) * c.args.shape.shares) ≤ length c.args.table.now) × (c.cell-o.result + (most_width * c.args.shape.shares + (columns_from c.args.shape.columns c.args.j - most_width) * c.args.shape.shares) ≤ length c.args.table.now) =
    let x = c.args in rw (← parts (columns_from x.shape.columns x.j) x.shape.shares c.if-columns-gt-MOST_WIDTH.true) (row-a, row-b) in
    omega (arith, within.1)

pub join_part-requires-clause-n_in_bounds : goal.join_part-requires-clause-n_in_bounds
join_part-requires-clause-n_in_bounds g c =
    let row-a : c.cell-p.result + columns_from c.args.shape.columns c.args.j * c.args.shape.shares ≤ length c.args.table.now =
    omega (arith, row_in c.args.shape.shares c.requires.inside.0) in
    let row-b : c.cell-o.result + columns_from c.args.shape.columns c.args.j * c.args.shape.shares ≤ length c.args.table.now =
    omega (arith, row_in c.args.shape.shares c.requires.inside.1) in
    let within : (c.cell-p.result + (most_width * c.args.shape.shares + (columns_from c.args.shape.columns c.args.j - most_width) * c.args.shape.shares) ≤ length c.args.table.now) × (c.cell-o.result + (most_width * c.args.shape.shares + (columns_from c.args.shape.columns c.args.j - most_width) * c.args.shape.shares) ≤ length c.args.table.now) =
    let x = c.args in rw (← parts (columns_from x.shape.columns x.j) x.shape.shares c.if-columns-gt-MOST_WIDTH.true) (row-a, row-b) in
    (omega (arith, within.0), omega (arith, within.1))

pub join_part-requires-2-clause-n_in_bounds : goal.join_part-requires-2-clause-n_in_bounds
join_part-requires-2-clause-n_in_bounds g c =
    let row-a : c.cell-p.result + columns_from c.args.shape.columns c.args.j * c.args.shape.shares ≤ length c.args.table.now =
    omega (arith, row_in c.args.shape.shares c.requires.inside.0) in
    let row-b : c.cell-o.result + columns_from c.args.shape.columns c.args.j * c.args.shape.shares ≤ length c.args.table.now =
    omega (arith, row_in c.args.shape.shares c.requires.inside.1) in
    let first : First (field_of c.args.shape.field) g.S.Sign.minus c.args.shape.shares (columns_from c.args.shape.columns c.args.j) c.cell-p.result c.cell-o.result c.args.factor.now c.args.mask.now c.args.table.now c.if-columns-gt-MOST_WIDTH.k c.if-columns-gt-MOST_WIDTH.table =
    let q = c.requires.inside in elim c.if-columns-gt-MOST_WIDTH.branch [ then-columns-gt-MOST_WIDTH w ↦ wide w.pair_count.result w.if-columns-gt-MOST_WIDTH.true row-a (rw (c.cell-p.ensures, c.cell-o.ensures) (row_apart _ q.1 q.0)) (ap length w.table-is ∙ w.join_part.auto.table) w.pair_count.ensures (w.table-is ∙ w.join_part.ensures) w.k-is | else-columns-gt-MOST_WIDTH w ↦ narrow (omega arith) w.if-columns-gt-MOST_WIDTH.false w.table-is w.k-is ] in
    let d = first in
    (omega (arith, row-a, d.fits c.args.shape.shares), omega (arith, row-b, d.fits c.args.shape.shares))

pub returns : goal.returns
unfolding join_rows join_part
returns g c =
    let row-a : c.cell-p.result + columns_from c.args.shape.columns c.args.j * c.args.shape.shares ≤ length c.args.table.now =
    omega (arith, row_in c.args.shape.shares c.requires.inside.0) in
    let first : First (field_of c.args.shape.field) g.S.Sign.minus c.args.shape.shares (columns_from c.args.shape.columns c.args.j) c.cell-p.result c.cell-o.result c.args.factor.now c.args.mask.now c.args.table.now c.if-columns-gt-MOST_WIDTH.k c.if-columns-gt-MOST_WIDTH.table =
    let q = c.requires.inside in elim c.if-columns-gt-MOST_WIDTH.branch [ then-columns-gt-MOST_WIDTH w ↦ wide w.pair_count.result w.if-columns-gt-MOST_WIDTH.true row-a (rw (c.cell-p.ensures, c.cell-o.ensures) (row_apart _ q.1 q.0)) (ap length w.table-is ∙ w.join_part.auto.table) w.pair_count.ensures (w.table-is ∙ w.join_part.ensures) w.k-is | else-columns-gt-MOST_WIDTH w ↦ narrow (omega arith) w.if-columns-gt-MOST_WIDTH.false w.table-is w.k-is ] in
    c.join_part-2.ensures ∙ first.whole ∙ rw (c.cell-p.ensures, c.cell-o.ensures)
