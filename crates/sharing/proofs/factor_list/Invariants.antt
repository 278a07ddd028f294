-- `sharing::factor_list` meets its contract. The loop's invariant: the turns so far have stored the draw at each place passed, over zeros.
-- Assumes nothing.
use Rattle.std.proofs.Common.{◌≡◌, length, replicate}
use Rattle.field.specs.Field.{field_of}
use Rattle.sharing.specs.Run.{run}
use Rattle.sharing.specs.Rules.{draw_at}
use Rattle.sharing.proofs.Each.{each}
use Rattle.sharing.proofs.factor_list.Given as goal

abbrev pub invariant-loop-k : goal.invariant-loop-k
invariant-loop-k l = (length l.list ≡ 4) × (l.list ≡ run (each (λ k x. draw_at (field_of l.f) l.nz k)) l.k (replicate 4 0))
