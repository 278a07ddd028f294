use mathlib.Core.Path.{◌∙◌}
use Prim.Native.Nat.{ℕ, ◌-◌, ◌*◌, ◌≤◌}
use native.Mathlib.Omega.{arith}
use Rattle.table.specs.Layout.{columns_from, Inside}
use Rattle.table.proofs.Lent.{lent_length}
use Rattle.word_table.proofs.Sizes.{row_within}
use Rattle.word_table.proofs.Telling.{told_between, pairs_some, row_fewer, draws_room, products_room, other_room, masks_room}
use Rattle.word_table.proofs.Joined.{joined-lent}
use Rattle.word_table.proofs.join_rows.Goals as goal

-- some columns are left, and no more than there are
some : {rows w r j : ℕ} → Inside rows w r j → (1 ≤ columns_from w j) × (columns_from w j ≤ w)
some P = (omega (arith, P.column_low, P.column_high), omega (arith, P.column_low, P.column_high))

pub masks_of-requires : goal.masks_of-requires
masks_of-requires g c =
    let x = c.args in
    let q = c.requires in
    let t = told_between q.room.2 in (
      omega (arith, q.room.1),
      t.1,
      rw q.draws.0 q.worded.bounded.fits.shares_high,
      rw q.draws.0 (masks_room x.shape (columns_from x.shape.columns x.j) (some q.inside.0).1 q.room.0 t.1),
    )

pub prepare-requires : goal.prepare-requires
prepare-requires g c =
    let x = c.args in
    let q = c.requires in
    let b = q.worded.bounded in
    let t = told_between q.room.2 in
    let s = some q.inside.0 in
    let k = columns_from x.shape.columns x.j in
    let z = c.row_words-size in
    record {
      le_bits = (t.0, t.1, b.shares_low, b.fits.shares_high, s.0, omega (arith, s.1, b.fits.width_high));
      n_in_bounds = (
        rw (lent_length z.result ((x.b - 1) * z.result) x.words.now (row_within x.shape z.ensures.0 q.worded.room q.inside.1))
            (omega (arith, z.ensures.0, row_fewer x.shape.shares x.shape.columns k s.1)),
        other_room x.shape k s.1 q.room.0 t.1,
      );
    }

pub deal-requires : goal.deal-requires
deal-requires g c =
    let x = c.args in
    let q = c.requires in
    let b = q.worded.bounded in
    let s = some q.inside.0 in
    let e = c.pair_count.ensures in
    let p = pairs_some x.shape.shares b.shares_low b.fits.shares_high in
    record {
      le_n = (rw e p.0, rw e p.1, rw e p.2, s.0, omega (arith, s.1, b.fits.width_high));
      n_in_bounds = (rw e q.draws.1, rw e (draws_room x.shape (columns_from x.shape.columns x.j) s.1 q.room.0));
    }

pub slice_bounds-row-end : goal.slice_bounds-row-end
slice_bounds-row-end g c = omega (arith, row_within c.args.shape c.row_words-size.ensures.0 c.requires.worded.room c.requires.inside.0)

pub join-requires : goal.join-requires
join-requires g c =
    let x = c.args in
    let q = c.requires in
    let b = q.worded.bounded in
    let s = some q.inside.0 in
    let k = columns_from x.shape.columns x.j in
    let z = c.row_words-size in
    let h = (told_between q.room.2).1 in (
      b.shares_low,
      b.fits.shares_high,
      q.room.1,
      rw (lent_length z.result ((x.a - 1) * z.result) x.words.now (row_within x.shape z.ensures.0 q.worded.room q.inside.0))
          (omega (arith, z.ensures.0, row_fewer x.shape.shares x.shape.columns k s.1)),
      omega (arith, c.prepare.auto.other, other_room x.shape k s.1 q.room.0 h),
      omega (arith, c.masks_of.auto.masks, masks_room x.shape k s.1 q.room.0 h),
      omega (arith, c.deal.auto.row, draws_room x.shape k s.1 q.room.0),
      products_room x.shape k s.1 q.room.0,
    )

pub returns : goal.returns
returns g c =
    let x = c.args in
    let q = c.requires in
    let s = x.shape in
    let z = c.row_words-size in
    joined-lent s.field s.shares s.columns s.rows x.words.now q.inside.0 q.inside.1 q.worded.room q.below
    g.row.BITS z.result x.mask.now x.factor.now _ _ _ _ z.ensures.0
    (c.join.auto.row ∙ lent_length z.result ((x.a - 1) * z.result) x.words.now (row_within s z.ensures.0 q.worded.room q.inside.0))
    q.draws.0 q.room.2 (rw q.draws.0 at c.masks_of.ensures) c.prepare.ensures (rw c.pair_count.ensures at c.deal.ensures) c.join.ensures
