use mathlib.Core.Path.{◌≡◌, ◌∙◌}
use Prim.Native.Nat.{◌+◌, ◌*◌, ◌≤◌}
use native.Mathlib.Omega.{arith}
use lib.ListN.{length}
use Rattle.field.specs.Field.{field_of, F256}
use Rattle.table.proofs.Lent.{lent_length}
use Rattle.word_table.proofs.Sizes.{table-rows, row_in, bytes_in}
use Rattle.word_table.proofs.Loading.{loaded_part, loaded_next, loaded_all}
use Rattle.word_table.proofs.load.Goals as goal

pub slice_bounds-deal-end : goal.slice_bounds-deal-end
slice_bounds-deal-end c = omega (arith, row_in c.args.shape {i = c.loop-r.r} c.row_words-size.ensures.0 c.requires.worded.room (omega arith))

pub slice_bounds-deal-end-in-loop-r : goal.slice_bounds-deal-end-in-loop-r
slice_bounds-deal-end-in-loop-r c = omega (arith, bytes_in c.args.shape {i = c.loop-r.r} c.requires.shaped.bytes (omega arith))

pub loop-r-preserved : goal.loop-r-preserved
unfolding field_of F256
loop-r-preserved c =
    let l = c.loop-r in
    let s = c.args.shape in
    let t = c.args.table.now in
    let z = c.row_words-size.result in
    let e = c.row_words-size.ensures.0 in
    let in_words : l.r * z + z ≤ length l.words = row_in s e (omega (arith, c.requires.worded.room)) (omega arith) in
    let in_bytes = bytes_in s {i = l.r} c.requires.shaped.bytes (omega arith) in
    loaded_next s.shares s.columns s.rows t l.r l.words _ l.invariant
    (loaded_part s.shares s.columns l.r z t l.words _ e (c.deal.auto.row ∙ lent_length z (l.r * z) l.words in_words) in_words in_bytes
    (record { at = λ i. omega (arith, c.type_inv.table i) }) c.deal.ensures)

pub returns : goal.returns
returns c =
    let s = c.args.shape in
    let l = c.loop-r in
    let e : l.r ≡ s.rows = omega arith in
    loaded_all s.shares s.columns s.rows c.args.table.now l.words (c.requires.shaped.bytes ∙ table-rows s.shares s.rows s.columns) (rw e at l.invariant)
