-- A record in its parts: what stands before the table, the table, and the end; and that three copies, one behind the other, make it.
-- Assumes nothing.
use mathlib.Core.List.{List, [], ◌∷◌, ◌++◌, append_assoc, append-nil}
use mathlib.Core.Path.{◌≡◌, refl, sym, ap, ◌∙◌}
use Prim.Native.Nat.{ℕ, ◌+◌, ◌-◌}
use native.Mathlib.Omega.{arith}
use lib.ListN.{length, drop, length-append, drop_of_length-le}
use lib.Seq.{take_at, drop_at}
use borrow.Rule.Slice.PartMut.{put_mid}
use Rattle.exchange.specs.Record.{tagged, record_of}
use Rattle.exchange.specs.Code.Header.{header_of}

pub parts : (f n m : ℕ) (t : List ℕ) → record_of f n m t ≡ header_of f n m (length t) ++ (t ++ (255 ∷ 0 ∷ 0 ∷ []))
unfolding tagged record_of header_of
parts f n m t = refl

pub header_length : (f n m k : ℕ) → length (header_of f n m k) ≡ 16
unfolding tagged header_of
header_length f n m k = refl

pub record_length_lem : (f n m : ℕ) (t : List ℕ) → length (record_of f n m t) ≡ length t + 19
record_length_lem f n m t =
    ap length (parts f n m t)
    ∙ simp (length-append, header_length f n m (length t)) (omega arith)

module _ (h t e target : List ℕ) (k : ℕ) (sixteen : length h ≡ 16) (long : length t ≡ k) where
  abbrev first : List ℕ
  first = h ++ drop 16 target

  abbrev second : List ℕ
  second = put_mid 16 (16 + k - 16) first t

  abbrev rest : List ℕ
  rest = drop (16 + k - 16) (drop 16 target)

  second_is : second ≡ (h ++ t) ++ rest
  second_is = rw (take_at h (drop 16 target) 16 sixteen, drop_at h (drop 16 target) 16 sixteen) (sym (append_assoc h t rest))

  both_long : length (h ++ t) ≡ 16 + k
  both_long = length-append h t ∙ omega (arith, sixteen, long)

  pub copied : put_mid (16 + k) (length second - (16 + k)) second e ≡ h ++ (t ++ e)
  copied =
      let none : drop (length ((h ++ t) ++ rest) - (16 + k)) rest ≡ [] = drop_of_length-le rest {i = length ((h ++ t) ++ rest) - (16 + k)} (omega (arith, length-append (h ++ t) rest, both_long)) in
      rw (second_is, take_at (h ++ t) rest (16 + k) both_long, drop_at (h ++ t) rest (16 + k) both_long, none, append-nil e) (append_assoc h t e)
