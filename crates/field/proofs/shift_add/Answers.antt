-- `field::shift_add` meets its contract: a turn of the loop is a step of the definition.
-- Assumes nothing.
use Rattle.std.proofs.Common.{◌-◌, ◌∙◌, arith}
use Rattle.field.proofs.Shift.{doubled, double_lt, turn, no_turns}
use Rattle.field.proofs.shift_add.Goals as goal

pub loop-preserved : goal.loop-preserved
loop-preserved g c =
    let s = c.loop in
    let is = doubled g.row.W g.row.TAIL s.x c.requires.field.0 c.requires.field.1 s.invariant.x_fits in
    rw is (record {
      x_fits = double_lt g.row.W g.row.TAIL s.x c.requires.field.2;
      sum = turn g.row.W g.row.TAIL c.args.one s.p s.x s.y s.counter c.requires.factors.0 (omega arith) ∙ s.invariant.sum;
    })

pub returns : goal.returns
returns g c = let s = c.loop in no_turns g.row.W g.row.TAIL s.p s.x s.y (g.row.W - s.counter) (omega arith) ∙ s.invariant.sum
