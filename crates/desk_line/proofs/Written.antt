-- A text at a place of a buffer: a text after a text, and a whole line at the front.
-- Assumes nothing.
use mathlib.Core.List.{List, [], ◌∷◌, ◌++◌, append_assoc}
use mathlib.Core.Path.{◌≡◌, sym, ap, ◌∙◌}
use Prim.Native.Nat.{ℕ, suc, ◌+◌, ◌≤◌, ◌<◌}
use native.Mathlib.Nat.{add_assoc, zero-add}
use native.Mathlib.Omega.{arith}
use lib.ListN.{length, get_or, take, drop, set, length-append}
use lib.Seq.{take-length, length-take-le, take_at, drop-append-add, drop-drop, drop-cons, set_at, append_snoc, paste}
use Rattle.io.specs.Counts.{IsPrefixLen}
use Rattle.desk_line.specs.Line.{written, Wrote, Made}

-- all of a text pasted is the text written
pub pasted_all : (d : List ℕ) (at : ℕ) (s : List ℕ) → paste d at s (length s) ≡ written d at s
unfolding written
pasted_all d at s = rw take-length

-- the place behind a text
past : (d : List ℕ) (at : ℕ) (s : List ℕ) → at ≤ length d → length (take at d ++ s) ≡ at + length s
past d at s h = length-append (take at d) s ∙ ap (λ (k : ℕ). k + length s) (length-take-le at d h)

-- a text, and another where it ends, are the two in a row
pub written_more : (d : List ℕ) (at : ℕ) (s t : List ℕ) → at + length s ≤ length d → written (written d at s) (at + length s) t ≡ written d at (s ++ t)
unfolding written
written_more d at s t h =
    let p = take at d ++ s in
    let q = drop (at + length s) d in
    let len : length p ≡ at + length s = past d at s (omega arith) in
    let front : take (at + length s) (p ++ q) ≡ p = take_at p q (at + length s) len in
    let back : drop (at + length s + length t) (p ++ q) ≡ drop (at + length (s ++ t)) d =
    ap (λ (k : ℕ). drop (k + length t) (p ++ q)) (sym len) ∙ drop-append-add p q (length t) ∙ drop-drop (length t) (at + length s) d
    ∙ ap (λ (k : ℕ). drop k d) (add_assoc at (length s) (length t) ∙ ap (λ (k : ℕ). at + k) (sym (length-append s t))) in
    rw (front, back, append_assoc (take at d) s t)

-- a writer, and a second where the first ended
pub wrote_then : {d : List ℕ} {at : ℕ} {s : List ℕ} {e : List ℕ} {p : ℕ} {t : List ℕ} {f : List ℕ} {r : ℕ}
    → Wrote d at s e p → Wrote e p t f r → at + length s ≤ length d → Wrote d at (s ++ t) f r
wrote_then {d} {at} {s} {e} {p} {t} {f} {r} one two h = record {
  bytes = two.bytes ∙ ap (λ (l : List ℕ). written l p t) one.bytes ∙ ap (λ (k : ℕ). written (written d at s) k t) one.next ∙ written_more d at s t h;
  next = omega (arith, one.next, two.next, length-append s t);
}

-- one byte more
pub wrote_byte : {d : List ℕ} {at : ℕ} {s : List ℕ} {e : List ℕ} {p : ℕ} (b : ℕ)
    → Wrote d at s e p → at + length s < length d → Wrote d at (s ++ (b ∷ [])) (set e p b) (p + 1)
unfolding written
wrote_byte {d} {at} {s} {e} {p} b one h =
    let front = take at d ++ s in
    let k = at + length s in
    let len : length front ≡ k = past d at s (omega arith) in
    let next : suc k ≡ at + length (s ++ (b ∷ [])) = omega (arith, length-append s (b ∷ [])) in
    record {
      bytes =
          ap (λ (l : List ℕ). set l p b) one.bytes ∙ ap (λ (j : ℕ). set (front ++ drop k d) j b) one.next
          ∙ ap (λ (l : List ℕ). set (front ++ l) k b) (drop-cons d k 0 h)
          ∙ set_at front (get_or d k 0) (drop (suc k) d) b k len
          ∙ sym (append_snoc front b (drop (suc k) d))
          ∙ ap (λ (l : List ℕ). l ++ drop (suc k) d) (append_assoc (take at d) s (b ∷ []))
          ∙ ap (λ (j : ℕ). take at d ++ (s ++ (b ∷ [])) ++ drop j d) next;
      next = omega (arith, one.next, next);
    }

-- a text at the front is a whole line
pub made_front : {d s e : List ℕ} {r : ℕ} → Wrote d 0 s e r → Made d s e r
unfolding written
made_front {d} {s} {e} {r} w = record { bytes = w.bytes ∙ rw zero-add; count = omega (arith, w.next) }

-- the same line, said otherwise
pub made_as : {d s t e : List ℕ} {r : ℕ} → s ≡ t → Made d s e r → Made d t e r
made_as {d} {s} {t} {e} {r} same m = rw same at m

-- a line that was made lies within its buffer
pub made_within : {d s e : List ℕ} {r : ℕ} → Made d s e r → IsPrefixLen r e
made_within {d} {s} {e} {r} m =
    let whole : length e ≡ length s + length (drop (length s) d) = ap length m.bytes ∙ length-append s (drop (length s) d) in
    let fits : r ≤ length e = omega (arith, m.count) in
    (fits, sym (length-take-le r e fits))

-- only one outcome meets the promise of a line
pub made_once : {d s e e' : List ℕ} {r r' : ℕ} → Made d s e r → Made d s e' r' → (e ≡ e') × (r ≡ r')
made_once m m' = (m.bytes ∙ sym m'.bytes, m.count ∙ sym m'.count)
