-- One entry dealt, as the code does it: the draws go behind the first share, and then the first share is stored.
-- Assumes nothing.
use mathlib.Core.List.{List, [], ◌∷◌, ◌++◌, append-nil}
use mathlib.Core.Path.{◌≡◌, ap, ◌∙◌}
use Prim.Native.Nat.{ℕ, suc, ◌+◌, ◌-◌, ◌*◌, ◌≤◌}
use native.Mathlib.Omega.{arith}
use lib.ListN.{length, get_or, set, take, drop}
use lib.Seq.{take-length, drop-length}
use Rattle.field.specs.Field.{Ops, sub, field_of}
use Rattle.sharing.specs.Run.{tab}
use Rattle.sharing.specs.Rules.{sum, draw_at}
use Rattle.sharing.proofs.Loops.{rest}
use Rattle.table.specs.Layout.{put}
use Rattle.table.specs.Steps.{column_turn}
use Rattle.table.proofs.Parts.{part-lent, put-lent, part_length}
use Rattle.walk.specs.Dealing.{dealt_entry, deal_turn}

-- what `&mut e[1..]` leaves of e where it came back as y
abbrev behind : List ℕ → List ℕ → List ℕ
behind e y = take 1 e ++ (y ++ drop (length e - 1) (drop 1 e))

-- and what `&e[1..]` is
abbrev others : List ℕ → List ℕ
others e = take (length e - 1) (drop 1 e)

others_cons : (x : ℕ) (s : List ℕ) → others (x ∷ s) ≡ s
others_cons x s = let k : suc (length s) - 1 ≡ length s = omega arith in rw k (take-length s)

behind-cons : (x : ℕ) (s y : List ℕ) → behind (x ∷ s) y ≡ x ∷ y
behind-cons x s y = let k : suc (length s) - 1 ≡ length s = omega arith in rw (k, drop-length s, append-nil y)

pub entry-dealt : (F : Ops) (e y ds : List ℕ) (v d r : ℕ) → 2 ≤ length e
    → y ≡ tab (length (others e)) (draw_at F ds) → d ≡ sum F (others (behind e y)) → r ≡ sub F v d
    → set (behind e y) 0 r ≡ dealt_entry F (length e) ds v
entry-dealt F [] y ds v d r h p q t = absurd (omega arith)
entry-dealt F (x ∷ s) y ds v d r h p q t = unfold dealt_entry in
    let k : suc (length s) - 1 ≡ length s = omega arith in
    let own : y ≡ tab (length s) (draw_at F ds) = p ∙ ap (λ (l : List ℕ). tab (length l) (draw_at F ds)) (others_cons x s) in
    let all : d ≡ sum F y = q ∙ ap (λ (l : List ℕ). sum F (others l)) (behind-cons x s y) ∙ ap (sum F) (others_cons x y) in
    ap (λ (l : List ℕ). set l 0 r) (behind-cons x s y) ∙ rw (k, t, all, own)

pub turn_dealt : (f n i p d : ℕ) (vs ds t y : List ℕ) → p ≡ i * n → d ≡ i * (n - 1) → p + n ≤ length t
    → y ≡ dealt_entry (field_of f) (length (take (p + n - p) (drop p t))) (take (length ds - d) (drop d ds)) (get_or vs i 0)
    → take p t ++ (y ++ drop (p + n - p) (drop p t)) ≡ column_turn n (deal_turn f n vs ds) i t
unfolding deal_turn
turn_dealt f n i p d vs ds t y a b h e =
    put-lent n p y t
    ∙ rw (← a, ← b) (ap (λ (s : List ℕ). put n p s t) (rw (part-lent n p t, part_length n p t h, rest d ds) at e))
