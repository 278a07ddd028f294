use mathlib.Core.Path.{◌∙◌}
use native.Mathlib.Omega.{arith}
use Rattle.sharing.proofs.Loops.{run_none, run-next, run_done}
use Rattle.word_table.proofs.Sizes.{row_in, bytes_in}
use Rattle.word_table.proofs.Storing.{stored, stored_part}
use Rattle.word_table.proofs.store.Goals as goal

pub loop-r-init : goal.loop-r-init
loop-r-init c = run_none _ _

pub slice_bounds-take_row-end : goal.slice_bounds-take_row-end
slice_bounds-take_row-end c = omega (arith, bytes_in c.args.shape {i = c.loop-r.r} c.requires.shaped.bytes (omega arith))

pub slice_bounds-take_row-end-in-loop-r : goal.slice_bounds-take_row-end-in-loop-r
slice_bounds-take_row-end-in-loop-r c =
    omega (arith, row_in c.args.shape {i = c.loop-r.r} c.row_words-size.ensures.0 c.requires.worded.room (omega arith))

pub loop-r-preserved : goal.loop-r-preserved
loop-r-preserved c =
    let l = c.loop-r in
    let s = c.args.shape in
    run-next _ _ _ _ _ l.invariant
    (rw c.take_row.ensures (stored_part s.shares s.columns l.r c.row_words-size.result c.args.words.now l.table c.row_words-size.ensures.0))

pub returns : goal.returns
returns c =
    let s = c.args.shape in
    run_done _ _ s.rows _ _ c.loop-r.invariant (omega arith) ∙ stored s.shares s.columns s.rows c.args.words.now c.args.table.now c.requires.shaped.bytes
