-- The outcome of a public call: what it answers, in 01's words, and every lent byte as it stands afterwards.
-- Assumes nothing.
use Rattle.std.specs.Prelude.{Result, Ok, Err}
use Rattle.verdict.specs.declared.Refusal.{Refusal}
use Rattle.verdict.specs.Told.{Told, passed, refused, Line}
use Rattle.verdict.specs.Refusals.{paper}

-- what a call answers: a refusal, by 01's number and detail, or what it gives
pub data Says (A : Type 0) : Type 0 where
  refuses : Line → Says A
  gives : A → Says A

-- what the code's answer says: what the call gives, or the number and detail of its refusal
abbrev pub says : {A : Type 0} → Result A Refusal → Says A
says (Ok a) = gives a
says (Err r) = refuses (paper r)

-- the outcome of a call that gives an A and is lent an L: its answer, and what was lent as it stands afterwards
pub record Outcome (A L : Type 0) : Type 0 where
  pub says : Says A
  pub left : L

abbrev pub after : {A L : Type 0} → Says A → L → Outcome A L
after a l = record { says = a; left = l }

-- the first refusal that applies, with what was lent as found; or what the call does
unfoldable pub call : {A L : Type 0} → Told → L → Outcome A L → Outcome A L
call passed found does = does
call (refused l) found does = after (refuses l) found

-- nothing is lent, or nothing that could change
abbrev pub Nothing : Type 0
Nothing = Unit {0}
