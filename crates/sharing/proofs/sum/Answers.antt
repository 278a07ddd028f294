-- `sharing::sum` meets its contract: a turn of the loop sums the last of what is left.
-- Assumes nothing.
use Rattle.std.proofs.Common.{ℕ, sym, ap, ◌∙◌}
use Rattle.field.specs.Field.{field_of}
use Rattle.sharing.proofs.Sums.{onto, onto-sum, onto-none, onto-last}
use Rattle.sharing.proofs.sum.Goals as goal

pub loop-x-init : goal.loop-x-init
loop-x-init c =
    rw (c.into_iter-x-iterator.ensures.into_iter_gives, c.rev-x-items.ensures.source, c.iter.ensures.rest) (onto-sum _ _)

pub loop-x-preserved : goal.loop-x-preserved
loop-x-preserved c =
    let F = field_of c.args.f in
    let l = c.loop-x in
    let left = c.next.new.self.iter.rest.now in
    ap (λ (v : ℕ). onto F v left) c.add-v.ensures
    ∙ sym (onto-last F l.v c.in-Some.x.now left) ∙ ap (onto F l.v) (sym (c.in-Some.ensures.steps)) ∙ l.invariant

pub returns : goal.returns
returns c = sym (onto-none _ _ _ (c.in-None.ensures.steps.0)) ∙ c.loop-x.invariant
