-- `flag::fold_count` meets its contract: two folds in F16, three in the other field.
-- Assumes nothing.
use Rattle.flag.specs.Flag.{folds}
use borrow.Author.Tests.{eq-eqb, ne_eqb}
use mathlib.Core.Path.{refl}
use Rattle.flag.proofs.fold_count.Goals as goal

pub returns-then-f-eq16 : goal.returns-then-f-eq16
unfolding folds
returns-then-f-eq16 c = rw (eq-eqb c.args.f 16 c.if-f-eq16.true) refl

pub returns-else-f-eq16 : goal.returns-else-f-eq16
unfolding folds
returns-else-f-eq16 c = rw (ne_eqb c.args.f 16 c.if-f-eq16.false) refl
