use Rattle.word_table.proofs.Sizes.{row_within}
use Rattle.word_table.proofs.Scaling.{scaled-lent}
use Rattle.word_table.proofs.scale.Goals as goal

pub returns : goal.returns
returns c =
    let x = c.args in
    let s = x.shape in
    let q = c.requires in
    let z = c.row_words-size in
    scaled-lent s.field s.shares s.columns s.rows z.result x.nonzero.now x.mask.now x.words.now _ q.inside q.worded.room
    z.ensures.0 (row_within s z.ensures.0 q.worded.room q.inside) c.scale_words.auto.row c.scale_words.ensures
