-- Only one outcome meets a call's promise: of two that do, the answers are one, and so is what they leave. Each answer is read back from what
-- 01 says of it.
-- Assumes nothing.
use mathlib.Core.List.{[], ◌∷◌}
use mathlib.Core.Path.{◌≡◌, refl, sym, ap, ◌∙◌}
use Prim.Native.Nat.{ℕ}
use lib.ListN.{get_or}
use Rattle.verdict.specs.declared.Cell.{Cell}
use Rattle.verdict.specs.declared.Refusal.{Refusal}
use Rattle.verdict.specs.declared.Refusal.TheVariants.{Field, Shares, Size, Input, Target, Entry, MaskShort, NonzeroShort, ZeroDraw, OffList, Ended, ZeroPivot, MaskLong, NonzeroLong, BadTag, CutField, PastEnd, Counters, LiftByte, Columns}
use Rattle.verdict.specs.Told.{Line}
use Rattle.verdict.specs.Cells.{cell}
use Rattle.verdict.specs.Refusals.{paper}
use Rattle.std.specs.Prelude.{Result, Ok, Err}
use Rattle.verdict.specs.Calls.{Says, refuses, gives, Outcome, after, says}

-- the case of a number of 01's table
pub back : Line → Refusal
back l =
    let d : ℕ = get_or l.detail 0 0 in
    let c : Cell = cell d (get_or l.detail 1 0) (get_or l.detail 2 0) in
    get_or
    (Ended ∷ Field d ∷ Shares d ∷ Size d ∷ Input d ∷ Target d ∷ Entry c ∷ MaskShort d ∷ NonzeroShort d ∷ ZeroDraw d ∷ OffList ∷ Ended ∷ ZeroPivot c ∷ Ended ∷ MaskLong d ∷ NonzeroLong d ∷ BadTag d ∷ CutField d ∷ PastEnd d ∷ Counters ∷ LiftByte d ∷ Columns d ∷ [])
    l.number Ended

pub back-paper : (r : Refusal) → back (paper r) ≡ r
unfolding back
back-paper (Field q) = refl
back-paper (Shares n) = refl
back-paper (Size m) = refl
back-paper (Input k) = refl
back-paper (Target k) = refl
back-paper (Entry c) = refl
back-paper (MaskShort k) = refl
back-paper (NonzeroShort k) = refl
back-paper (ZeroDraw i) = refl
back-paper OffList = refl
back-paper Ended = refl
back-paper (ZeroPivot c) = refl
back-paper (MaskLong k) = refl
back-paper (NonzeroLong k) = refl
back-paper (BadTag i) = refl
back-paper (CutField i) = refl
back-paper (PastEnd i) = refl
back-paper Counters = refl
back-paper (LiftByte j) = refl
back-paper (Columns c) = refl

-- one outcome at most: whatever the call is to come to, two answers that say it are one, and so is what is left of what was lent
abbrev pub Once : {E A : Type 0} → (E → Says A) → Type 0 → Type 0
Once {E} {A} says L = (o : Outcome A L) (a b : E) (l k : L) → after (says a) l ≡ o → after (says b) k ≡ o → (a ≡ b) × (l ≡ k)

-- where the answer can be read back
pub only : {E A L : Type 0} (says : E → Says A) (back : Says A → E) → ((e : E) → back (says e) ≡ e) → Once says L
only {A = A} {L = L} says back so o a b l k e d =
    let w : after (says a) l ≡ after (says b) k = e ∙ sym d in
    (sym (so a) ∙ ap (λ (u : Outcome A L). back u.says) w ∙ so b, ap (λ (u : Outcome A L). u.left) w)

-- so it is with the Result that a call hands back, which `says` reads
says_back : {A : Type 0} → Says A → Result A Refusal
says_back (refuses l) = Err (back l)
says_back (gives a) = Ok a

back_says : {A : Type 0} (r : Result A Refusal) → says_back (says r) ≡ r
unfolding says_back
back_says (Ok a) = refl
back_says (Err r) = ap Err (back-paper r)

pub once_says : {A L : Type 0} → Once {E = Result A Refusal} says L
once_says = only says says_back back_says
