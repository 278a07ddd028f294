-- Only one outcome meets the promise of a call for C: of two that do, the codes are one, and so are what was lent, byte for byte and word for
-- word, and the answer's words. Each promise is an equation with `back` on its left, so one statement serves all exports.
-- Assumes nothing.
use mathlib.Core.List.{List}
use mathlib.Core.Path.{◌≡◌, sym, ap, ◌∙◌}
use Prim.Native.Nat.{ℕ}
use Rattle.walk.specs.Act.{Held, held}
use Rattle.host.specs.Faces.{Back, back, Recorded, recorded}

-- hz_start, hz_deal, hz_gather, hz_plain, hz_write, hz_wide_start: l is the record's words, the table, the values, the solution, or the target;
-- hz_counts, hz_wanted, hz_read, hz_wide_counts and hz_wide_wanted lend nothing else that could change
pub once : {L : Type 0} (b : Back L) (r s : ℕ) (l k : L) (a c : List ℕ) → back r l a ≡ b → back s k c ≡ b → (r ≡ s) × (l ≡ k) × (a ≡ c)
once {L} b r s l k a c e d =
    let w : back r l a ≡ back s k c = e ∙ sym d in
    (ap (λ (u : Back L). u.code) w, ap (λ (u : Back L). u.left) w, ap (λ (u : Back L). u.answer) w)

-- hz_solve and hz_wide_solve, with the table and the solution apart
pub held_once : (b : Back Held) (r s : ℕ) (t u x y a c : List ℕ) → back r (held t x) a ≡ b → back s (held u y) c ≡ b
    → (r ≡ s) × (t ≡ u) × (x ≡ y) × (a ≡ c)
held_once b r s t u x y a c e d =
    let w = once b r s (held t x) (held u y) a c e d in
    (w.0, ap (λ (h : Held). h.table) w.1, ap (λ (h : Held). h.solution) w.1, w.2)

-- hz_step and hz_wide_step, with the record's words too
pub recorded_once : (b : Back Recorded) (r s : ℕ) (v w t u x y a c : List ℕ) → back r (recorded v (held t x)) a ≡ b
    → back s (recorded w (held u y)) c ≡ b → (r ≡ s) × (v ≡ w) × (t ≡ u) × (x ≡ y) × (a ≡ c)
recorded_once b r s v w t u x y a c e d =
    let z = once b r s (recorded v (held t x)) (recorded w (held u y)) a c e d in
    (z.0, ap (λ (h : Recorded). h.words) z.1, ap (λ (h : Recorded). h.held.table) z.1, ap (λ (h : Recorded). h.held.solution) z.1, z.2)
