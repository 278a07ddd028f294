-- `flag::own_terms` meets its contract. The loop's invariant: the turns so far have kept each place passed and stored its term.
-- Assumes nothing.
use Rattle.std.proofs.Common.{◌≡◌, get_or}
use lib.Bits.{bit_and}
use Rattle.sharing.specs.Run.{run}
use Rattle.sharing.proofs.Each.{each}
use Rattle.flag.proofs.own_terms.Given as goal

abbrev pub invariant-loop-i : goal.invariant-loop-i
invariant-loop-i g l = record {
  terms : l.s ≡ run (each (λ k x. bit_and x (get_or l.t k 0))) l.i l.initial.s;
  kept : l.old ≡ run (each (λ k x. get_or l.initial.s k 0)) l.i l.initial.old;
}
