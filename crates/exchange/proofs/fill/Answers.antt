-- `fill` meets its contract: what stands before the table, the table, and the end, one behind the other.
-- Assumes nothing.
use mathlib.Core.List.{[], ◌∷◌}
use mathlib.Core.Path.{◌≡◌, sym, ◌∙◌}
use lib.ListN.{length}
use Rattle.exchange.specs.Code.Header.{header_of}
use Rattle.exchange.proofs.Parts.{parts, header_length, copied}
use Rattle.exchange.proofs.fill.Goals as goal

pub returns : goal.returns
returns c =
    let s = c.args.s in
    let t = c.args.table.now in
    let long : length t ≡ s.length = c.requires.target_len.0 in
    rw (c.copy_from_slice-2.ensures.after, c.copy_into.ensures, c.copy_from_slice.ensures.after, c.header.ensures)
    (copied (header_of s.field s.shares s.size s.length) t (255 ∷ 0 ∷ 0 ∷ []) c.args.target.now s.length (header_length s.field s.shares s.size _) long
    ∙ sym (rw long at (parts s.field s.shares s.size t)))
