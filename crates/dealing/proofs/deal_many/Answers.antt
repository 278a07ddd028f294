use mathlib.Core.Path.{◌≡◌, refl, ap}
use Prim.Native.Nat.{ℕ, ◌+◌, ◌-◌, ◌*◌, ◌/◌, ◌<◌, ◌≤◌}
use native.Mathlib.Omega.{arith}
use Rattle.dealing.proofs.Dealing.{dealt_more}
use Rattle.dealing.proofs.deal_many.Goals as goal
use Rattle.dealing.proofs.deal_many.Goals.{then-left-lt8, else-left-lt8}

-- a turn: the word of the eight columns from column `first` on, moved up by so many bits that only those that are left stay
record Turn (columns u first shift : ℕ) : Type 0 where
  moved : first + 8 + 8 * u ≡ columns + shift / 8
  only : 0 < shift / 8 → first ≡ 0

last_turn : (columns u first shift : ℕ) → u < (columns + 7) / 8 → columns - 8 * u < 8 → first ≡ 0 → shift ≡ 64 - 8 * (columns - 8 * u) → Turn columns u first shift
last_turn columns u first shift h l e f = record { moved = omega arith; only = λ p. e }

full_turn : (columns u first shift : ℕ) → 8 ≤ columns - 8 * u → first ≡ columns - 8 * u - 8 → shift ≡ 0 → Turn columns u first shift
full_turn columns u first shift l e f = record { moved = omega arith; only = λ p. absurd (omega arith) }

pub loop-u-preserved : goal.loop-u-preserved
loop-u-preserved g c =
    let x = c.args in
    let l = c.loop-u in
    let p = c.if-left-lt8.first in
    let turn : Turn x.columns l.u p.0 p.1 = elim c.if-left-lt8.branch [
      | then-left-lt8 w ↦ last_turn x.columns l.u p.0 p.1 c.loop-u-test.true w.if-left-lt8.true (ap (λ (q : ℕ × ℕ). q.0) w.first-is) (ap (λ (q : ℕ × ℕ). q.1) w.first-is)
      | else-left-lt8 w ↦ full_turn x.columns l.u p.0 p.1 w.if-left-lt8.false (ap (λ (q : ℕ × ℕ). q.0) w.first-is) (ap (λ (q : ℕ × ℕ). q.1) w.first-is)
    ] in
    dealt_more x.low g.row.N x.columns x.d.now l.u p.0 (p.1 / 8) _ _ _ _ refl refl turn.moved turn.only l.invariant c.deal_word.ensures
