-- The words so far are dealt.
use Rattle.dealing.specs.Code.Words.{DealtWords}
use Rattle.dealing.proofs.deal_many.Given as goal

abbrev pub invariant-loop-u : goal.invariant-loop-u
invariant-loop-u g l = DealtWords l.low g.row.N l.columns l.u l.d l.row
