-- `desk_line::read_front`: what a read gave stands behind what stood there, and was taken from the reader behind what was taken.
-- Assumes nothing.
use Rattle.std.proofs.Common.{rules, arith, ◌+◌, ◌++◌, ◌-◌, ◌≤◌, take, length, subst, ap, sym, ◌∙◌, le_refl}
use Rattle.std.proofs.lemmas.Slice.{take-put_mid_below}
use Rattle.std.specs.Io.KnownBytes.{Consumes}
use Rattle.std.proofs.KnownBytes.{Consumes-trans}
use borrow.Rule.Slice.PartMut.{put_mid}
use Rattle.desk_line.proofs.Front.{take_split, slice_range-put_mid}
use Rattle.desk_line.proofs.read_front.Goals as goal

pub loop-n-preserved : goal.loop-n-preserved
loop-n-preserved g c =
    let l = c.loop-n in
    let at = l.n in
    let more = c.in_ok-more.more in
    let room = length l.input - at in
    let within : at ≤ length l.input = l.invariant.within in
    let part = slice_range-put_mid at room more l.input c.read.new.buf within c.in_ok-more.ensures.bound.0 in
    let joined = take_split at (at + more) l.input (put_mid at room l.input c.read.new.buf) (omega arith) (take-put_mid_below _ _ _ _ _ (le_refl _) within) in
    record {
      within = search rules;
      long = search rules;
      taken = subst (Consumes _ _) (ap (λ s. take at l.input ++ s) (sym part) ∙ joined) (Consumes-trans _ _ _ _ _ l.invariant.taken c.in_ok-more.ensures.bytes.0);
    }
