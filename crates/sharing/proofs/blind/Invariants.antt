-- `sharing::blind` meets its contract. The loop's invariant: the sharing is a run of the turns so far.
-- Assumes nothing.
use Rattle.std.proofs.Common.{◌≡◌}
use Rattle.field.specs.Field.{field_of}
use Rattle.sharing.specs.Run.{run}
use Rattle.sharing.specs.Rules.{blind_turn}
use Rattle.sharing.proofs.blind.Given as goal

abbrev pub invariant-loop-k : goal.invariant-loop-k
invariant-loop-k l = l.s ≡ run (blind_turn (field_of l.f) l.nz l.ds) l.k l.initial.s
