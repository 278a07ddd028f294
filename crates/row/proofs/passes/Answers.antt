-- `row::passes` meets its contract: the passes one after another.
-- Assumes nothing.
use mathlib.Core.Path.{ap, ◌∙◌}
use mathlib.Core.List.{List}
use Prim.Native.Nat.{ℕ, ◌+◌, ◌/◌, ◌^◌}
use native.Mathlib.Omega.{arith}
use native.Mathlib.Nat.{le_refl}
use lib.ListN.{replicate, length-replicate}
use Rattle.field.specs.Field.{field_of}
use Rattle.field.proofs.Fields.{field_of_lem}
use Rattle.sharing.proofs.Pairs.{tab-length}
use Rattle.row.specs.Code.Streams.{repeated}
use Rattle.row.proofs.Reducing.{reduced_below, products_reduced}
use Rattle.row.proofs.Shapes.{span_room, span_fits, rows_room, blocks_in, shares_in, bits_in, shifted, shaped}
use Rattle.row.proofs.passes.Goals as goal

pub spread-requires : goal.spread-requires
spread-requires g c =
    let S = c.requires.shape in
    let n = c.args.columns in
    let h = c.requires.le_columns in
    (S.least, S.most, span_fits S n h.1, span_room S n h.1, simp length-replicate (rows_room S n h.1), h.4)

pub products-requires : goal.products-requires
products-requires g c =
    let S = c.requires.shape in
    let n = c.args.columns in
    let h = c.requires.le_columns in
    let r = rows_room S n h.1 in
    let b = blocks_in S n h.1 in
    let s = span_room S n h.1 in
    ((bits_in S).1, S.block.1, omega (arith, length-replicate {A = ℕ}, S.stream_is), S.most, b, s, omega (arith, length-replicate {A = ℕ}), omega arith)

pub gather-requires : goal.gather-requires
gather-requires g c =
    let S = c.requires.shape in
    let n = c.args.columns in
    let h = c.requires.le_columns in
    let r = rows_room S n h.1 in
    let s = span_room S n h.1 in
    (omega (arith, S.least), S.most, shares_in S n h.1 h.0, le_refl _, s, omega (arith, length-replicate {A = ℕ}), omega arith)

pub returns : goal.returns
returns g c =
    let F = field_of (2 ^ g.row.BITS) in
    let L = field_of_lem (2 ^ g.row.BITS) in
    let factor = c.args.factor.now in
    let h = c.requires.le_columns in
    products_reduced F L factor
    (shaped c.requires.shape c.args.columns h.1 c.args.mask.now _ c.args.row.now h.2 (tab-length _ _ ∙ h.3) (reduced_below F L factor) _ _ _ _ _
    c.spread.ensures (c.repeat.ensures ∙ ap (λ (y : List ℕ). repeated g.row.N ((g.row.BLOCK + 16) / g.row.N) y (replicate g.row.STREAM 0)) (rw (shifted c.requires.shape) at c.reduced.ensures))
    c.double_rows.ensures c.products.ensures c.gather.ensures)
