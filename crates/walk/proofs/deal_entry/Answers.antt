-- `walk::deal_entry` meets its contract: shares 2..n are drawn, and share 1 is the value less their sum.
-- Assumes nothing.
use Rattle.field.specs.Field.{field_of}
use Rattle.walk.proofs.Dealt.{entry-dealt}
use Rattle.walk.proofs.deal_entry.Goals as goal

pub returns : goal.returns
returns c =
    let a = c.args in
    entry-dealt (field_of a.f) a.e.now c.draw_shares.new.e a.mask.now a.v c.sum-d.result c.sub.result c.requires.0 c.draw_shares.ensures c.sum-d.ensures c.sub.ensures
