-- `course::full_counts` meets its contract: done has taken the whole list.
-- Assumes nothing.
use mathlib.Core.Path.{◌≡◌, sym, ap, ◌∙◌}
use Prim.Native.Nat.{◌+◌}
use Rattle.course.specs.declared.Place.TheVariants.{Done}
use Rattle.course.specs.declared.Part.{Part}
use Rattle.course.specs.StepList.{full_mask, sums}
use Rattle.course.specs.Taken.{steps_before, taken_at}
use Rattle.course.specs.Code.Closed.{mask_of}
use Rattle.course.proofs.Sums.{list_length, nonzero_count}
use Rattle.course.proofs.Closed.{mask_closed, kept}
use Rattle.course.proofs.full_counts.Goals as goal

pub mask_of-requires : goal.mask_of-requires
mask_of-requires c = (c.requires, rw c.part_of.ensures (kept c.args.o c.requires Done tt))

pub returns : goal.returns
unfolding sums taken_at steps_before
returns c =
    let o = c.args.o in
    let x : c.mask_of.result ≡ full_mask o =
    c.mask_of.ensures ∙ ap (λ (z : Part). mask_of o.field o.shares (o.size + 1) z) c.part_of.ensures ∙ sym (mask_closed o c.requires Done tt) in
    rw (x, list_length o.size, nonzero_count o)
