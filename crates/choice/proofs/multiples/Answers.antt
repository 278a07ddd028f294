use mathlib.Core.Path.{refl, ap, ◌∙◌}
use native.Mathlib.Omega.{arith}
use Rattle.row.specs.Code.Streams.{doubled}
use Rattle.word.specs.Lanes.{lane, multiple}
use Rattle.choice.specs.Code.Writing.{IsMultiple}
use Rattle.choice.proofs.Doubling.{multiple-next}
use Rattle.choice.proofs.Writing.{holds_next}
use Rattle.choice.proofs.multiples.Goals as goal

pub loop-place-init : goal.loop-place-init
unfolding multiple
loop-place-init g c = (record { at = λ l h. refl }, λ t h. absurd (omega arith))

pub loop-place-preserved : goal.loop-place-preserved
loop-place-preserved g c =
    let l = c.loop-place in
    let x = c.args.x in (
      record {
        at = λ i h. c.double-v.ensures.at i h ∙ ap (doubled g.row.BITS) (l.invariant.0.at i h) ∙ multiple-next g.row.BITS l.place-index (lane x i);
      },
      holds_next (IsMultiple g.row.BITS x) l.place-index l.v l.group (omega arith) l.invariant.1 l.invariant.0,
    )
