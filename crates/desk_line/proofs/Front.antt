-- What is read of an input's front, and the line of it: the line of the front is that of the whole input.
-- Assumes nothing.
use Rattle.std.proofs.Common.{◌≡◌, ℕ, ◌+◌, ◌-◌, ◌≤◌, ◌<◌, List, ◌++◌, arith, length, take, slice_range, sym, ap, ◌∙◌, subst, drop_at, length-take-le, append-nil, refl, IfSome, OnOk, Ok, Err, Some, None, Result, Option}
use borrow.Rule.Slice.PartMut.{put_mid, post_of}
use lib.Seq.{take-add, take-append-le}
use lib.ListN.{length-append}
use Rattle.std.proofs.Math.Seq.{take-append_seam}
use Rattle.std.specs.Io.KnownBytes.{Appends}
use borrow.Author.Tests.{ltb-true, ltb-false}
use lib.Dec.{ltb}
use mathlib.Core.Bool.{Bool, true, false}
use Rattle.desk_line.specs.Line.{desk_line, Made, ReadFront}
use Rattle.desk_line.proofs.Lines.{not_four}

pub take_split : (a b : ℕ) (old new : List ℕ) → a ≤ b → take a new ≡ take a old → take a old ++ slice_range new a b ≡ take b new
take_split a b old new h front =
    let same : a + (b - a) ≡ b = omega arith in
    ap (λ l. l ++ slice_range new a b) (sym front) ∙ sym (take-add a (b - a) new) ∙ ap (λ n. take n new) same

pub slice_range-put_mid : (a k n : ℕ) (xs ys : List ℕ) → a ≤ length xs → n ≤ length ys → slice_range (put_mid a k xs ys) a (a + n) ≡ take n ys
slice_range-put_mid a k n xs ys within fits =
    let same : (a + n) - a ≡ n = omega arith in
    let after = post_of a k xs in
    ap (take ((a + n) - a)) (drop_at (take a xs) (ys ++ after) a (length-take-le a xs within)) ∙ ap (λ m. take m (ys ++ after)) same ∙ take-append-le n ys after fits

-- the line of a front that was read is that of all that the reader had
pub front_line : (xs : List ℕ) (rest : Option (List ℕ)) (buffer : List ℕ) (n : ℕ) → length buffer ≡ 5 → ReadFront (Some xs) rest buffer n
    → desk_line (take n buffer) ≡ desk_line xs
front_line xs None buffer n long f = absurd f.taken
front_line xs (Some ys) buffer n long f = by (ltb n 5) refl
  where
    by : (less : Bool) → ltb n 5 ≡ less → desk_line (take n buffer) ≡ desk_line xs
    by true e =
        let h : n < length buffer = omega (arith, ltb-true n 5 e) in
        ap desk_line (sym (f.taken ∙ ap (λ l. take n buffer ++ l) (f.ended h) ∙ append-nil (take n buffer)))
    by false e =
        let h : 5 ≤ n = ltb-false n 5 e in
        let five : length (take n buffer) ≡ 5 = omega (arith, length-take-le n buffer f.within, f.within) in
        let more : length xs ≡ length (take n buffer) + length ys = ap length f.taken ∙ length-append (take n buffer) ys in
        not_four (take n buffer) (λ four. absurd (omega arith)) ∙ sym (not_four xs (λ four. absurd (omega arith)))

-- what was read and made, and then written
pub served : {T E : Type 0} (r : Result T E) (had rest a b : Option (List ℕ)) (buffer : List ℕ) (n : ℕ) (out left : List ℕ) (k : ℕ) → length buffer ≡ 5
    → ReadFront had rest buffer n → Made out (desk_line (take n buffer)) left k → OnOk r (Appends a b (take k left))
    → OnOk r (IfSome had (λ input. Appends a b (desk_line input)))
served (Err e) had rest a b buffer n out left k long f m w = tt
served (Ok v) None rest a b buffer n out left k long f m w = tt
served (Ok v) (Some xs) rest a b buffer n out left k long f m w =
    let line = desk_line (take n buffer) in
    let all : take k left ≡ line = ap (λ i. take i left) m.count ∙ ap (take (length line)) m.bytes ∙ take-append_seam line _ in
    subst (λ (l : List ℕ). Appends a b l) (all ∙ front_line xs rest buffer n long f) w
