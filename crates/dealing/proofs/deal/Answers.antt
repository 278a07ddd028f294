use mathlib.Core.Path.{◌≡◌, refl}
use mathlib.Core.Logic.{◌⊎◌, inl, inr}
use mathlib.Core.Bool.{true, false}
use Prim.Native.Nat.{ℕ, ◌-◌, ◌%◌, ◌<◌}
use native.Mathlib.Omega.{arith}
use lib.Bits.{bit_and}
use borrow.Author.Tests.{ne_eqb}
use Rattle.field.specs.Field.{field_of, F16, F256}
use Rattle.word.specs.Lanes.{lane}
use Rattle.word.specs.Rows.{words_of}
use Rattle.dealing.proofs.Dealing.{dealt_none, dealt_more, dealt, low_of, low_cut}
use Rattle.dealing.proofs.deal.Goals as goal
use Rattle.dealing.proofs.deal.Goals.{then-f-eq16, else-f-eq16}

-- low is the number that the field has
abbrev Low : ℕ → ℕ → Type 0
Low f low = ((f ≡ 16) × (low ≡ low_of true)) ⊎ ((f ≡ 16 → ⊥) × (low ≡ low_of false))

-- what it keeps of each lane
keeps : (f low : ℕ) → Low f low → (x l : ℕ) → l < 8 → bit_and x (lane low l) ≡ x % (field_of f).q
unfolding field_of F16 F256
keeps f low (inl h) x l k = rw (h.0, h.1) (low_cut true x l k)
keeps f low (inr h) x l k = rw (ne_eqb f 16 h.0, h.1) (low_cut false x l k)

pub returns-then-columns-lt8 : goal.returns-then-columns-lt8
returns-then-columns-lt8 c =
    let x = c.args in
    let low : ℕ = c.if-f-eq16.low in
    let has : Low x.f low = elim c.if-f-eq16.branch [ then-f-eq16 w ↦ inl (w.if-f-eq16.true, w.low-is) | else-f-eq16 w ↦ inr (w.if-f-eq16.false, w.low-is) ] in
    dealt low x.n x.columns x.d.now (field_of x.f).q 1 _ (keeps x.f low has) (omega arith)
    (dealt_more low x.n x.columns x.d.now 0 0 (8 - x.columns) 0 0 _ _ (omega arith) (omega arith) (omega arith) (λ h. refl) (dealt_none _ _ _ _ _) c.few.ensures)

pub returns-else-columns-lt8 : goal.returns-else-columns-lt8
returns-else-columns-lt8 c =
    let x = c.args in
    let low : ℕ = c.if-f-eq16.low in
    let has : Low x.f low = elim c.if-f-eq16.branch [ then-f-eq16 w ↦ inl (w.if-f-eq16.true, w.low-is) | else-f-eq16 w ↦ inr (w.if-f-eq16.false, w.low-is) ] in
    dealt low x.n x.columns x.d.now (field_of x.f).q (words_of x.columns) _ (keeps x.f low has) refl c.deal_row.ensures
