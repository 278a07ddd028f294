-- Parts of a list of bytes, and parts put back: what each part is after another was put.
-- Assumes nothing.
use mathlib.Core.Path.{◌≡◌, sym, ap, ◌∙◌}
use Prim.Native.Nat.{ℕ, zero, suc, ◌+◌, ◌-◌, ◌<◌, ◌≤◌}
use mathlib.Core.List.{List, [], ◌∷◌, ◌++◌, append_assoc}
use native.Mathlib.Omega.{arith}
use lib.ListN.{length, get_or, take, drop, length-append, length-take, length-drop, take-append-drop}
use lib.Seq.{length-take-le, take-append-le, drop-append-le, take-append-add, drop-append-add, take-nil, take-take, drop-drop, take_all, drop_at, get_or-take, get_or-drop}
use Rattle.table.specs.Layout.{part, put}

-- ---- what the code lends

-- what `&t[p..p + k]` is
pub part-lent : (k p : ℕ) (t : List ℕ) → take (p + k - p) (drop p t) ≡ part k p t
unfolding part
part-lent k p t = let e : p + k - p ≡ k = omega arith in rw e

-- what a `&mut t[p..p + k]` that came back as y leaves
pub put-lent : (k p : ℕ) (y t : List ℕ) → take p t ++ (y ++ drop (p + k - p) (drop p t)) ≡ put k p y t
unfolding put
put-lent k p y t = let e : p + k - p ≡ k = omega arith in rw e

-- ---- a part

pub part_length : (k p : ℕ) (t : List ℕ) → p + k ≤ length t → length (part k p t) ≡ k
unfolding part
part_length k p t h = length-take-le k (drop p t) (rw length-drop (omega arith))

pub part_most : (k p : ℕ) (t : List ℕ) → length (part k p t) ≤ k
unfolding part
part_most k p t = simp length-take (omega arith)

pub part-all : (k : ℕ) (t : List ℕ) → length t ≡ k → part k 0 t ≡ t
unfolding part
part-all k t e = take_all k t (omega arith)

pub part_at : (k p : ℕ) (t : List ℕ) (i : ℕ) → i < k → get_or (part k p t) i 0 ≡ get_or t (p + i) 0
unfolding part
part_at k p t i h = get_or-take k (drop p t) i 0 h ∙ get_or-drop p t i 0

drop-take : (o k : ℕ) (x : List ℕ) → drop o (take k x) ≡ take (k - o) (drop o x)
drop-take zero k x = let e : k - 0 ≡ k = omega arith in rw e
drop-take (suc o) zero x = let e : 0 - suc o ≡ 0 = omega arith in rw e
drop-take (suc o) (suc k) [] = sym (take-nil {A = ℕ} (suc k - suc o))
drop-take (suc o) (suc k) (y ∷ x) =
    let e : suc k - suc o ≡ k - o = omega arith in rw e (drop-take o k x)

pub part-part : (l o k p : ℕ) (t : List ℕ) → o + l ≤ k → part l o (part k p t) ≡ part l (p + o) t
unfolding part
part-part l o k p t g =
    rw (drop-take o k (drop p t), take-take l (k - o) (drop o (drop p t)) (omega arith), drop-drop o p t)

-- of two lists, a part of the first and a part of the second
pub part-first : (l o : ℕ) (x y : List ℕ) → o + l ≤ length x → part l o (x ++ y) ≡ part l o x
unfolding part
part-first l o x y g =
    rw (drop-append-le o x y (omega arith), take-append-le l (drop o x) y (rw length-drop (omega arith)))

pub part-second : (l o k : ℕ) (x y : List ℕ) → length x ≡ k → part l (k + o) (x ++ y) ≡ part l o y
unfolding part
part-second l o k x y e = rw (← e, drop-append-add x y o)

-- the part that stands there, put there
pub put-part : (k p : ℕ) (t : List ℕ) → put k p (part k p t) t ≡ t
unfolding put part
put-part k p t =
    ap (λ (x : List ℕ). take p t ++ x) (take-append-drop k (drop p t)) ∙ take-append-drop p t

-- a part put before another
pub put-before : (k l p : ℕ) (x y t : List ℕ) → p + k ≤ length t → put k p x (put l (p + k) y t) ≡ put (k + l) p (x ++ y) t
unfolding put
put-before k l p x y t h =
    let r = y ++ drop l (drop (p + k) t) in
    let e : length (take (p + k) t) ≡ p + k = length-take-le (p + k) t h in
    rw (take-append-le p (take (p + k) t) r (omega arith), take-take p (p + k) t (omega arith), drop-drop k p (take (p + k) t ++ r), drop_at (take (p + k) t) r (p + k) e, ← drop-drop k p t, drop-drop l k (drop p t)) (simp append_assoc)

-- ---- after s was put at p

module _ (k p : ℕ) (s t : List ℕ) (ls : length s ≡ k) (h : p + k ≤ length t) where
  pub put-length : length (put k p s t) ≡ length t
  unfolding put
  put-length = simp (length-append, length-drop, length-take-le p t (omega arith), ls) (omega arith)

  head : length (take p t) ≡ p
  head = length-take-le p t (omega arith)

  -- a part of what was put
  pub part_inside : (l o : ℕ) → o + l ≤ k → part l (p + o) (put k p s t) ≡ part l o s
  unfolding part put
  part_inside l o g =
      let e : p + o ≡ length (take p t) + o = omega (arith, head) in
      rw (e, drop-append-add (take p t) (s ++ drop k (drop p t)) o, drop-append-le o s (drop k (drop p t)) (omega arith), take-append-le l (drop o s) (drop k (drop p t)) (rw length-drop (omega arith)))

  pub part_same : part k p (put k p s t) ≡ s
  part_same =
      let e : p + 0 ≡ p = omega arith in (rw e at (part_inside k 0 (omega arith))) ∙ part-all k s ls

  -- a part put into what was put
  pub put_inside : (l o : ℕ) (y : List ℕ) → o + l ≤ k → put l (p + o) y (put k p s t) ≡ put k p (put l o y s) t
  unfolding put
  put_inside l o y g =
      let e : p + o ≡ length (take p t) + o = omega (arith, head) in
      let r = drop k (drop p t) in
      let a : take (p + o) (take p t ++ (s ++ r)) ≡ take p t ++ take o s =
      rw (e, take-append-add (take p t) (s ++ r) o, take-append-le o s r (omega arith)) in
      let b : drop l (drop (p + o) (take p t ++ (s ++ r))) ≡ drop l (drop o s) ++ r =
      rw (e, drop-append-add (take p t) (s ++ r) o, drop-append-le o s r (omega arith), drop-append-le l (drop o s) r (rw length-drop (omega arith))) in
      rw (a, b) (simp append_assoc)

  pub part-before : (l o : ℕ) → o + l ≤ p → part l o (put k p s t) ≡ part l o t
  unfolding put
  part-before l o g =
      let e : o + l ≤ length (take p t) = omega (arith, head) in
      part-first l o (take p t) (s ++ drop k (drop p t)) e
      ∙ sym (part-first l o (take p t) (drop p t) e)
      ∙ ap (part l o) (take-append-drop p t)

  pub part-behind : (l o : ℕ) → p + k ≤ o → part l o (put k p s t) ≡ part l o t
  unfolding put part
  part-behind l o g =
      let d : ℕ = o - (p + k) in
      let x : length (take p t) ≡ p = head in
      let e : o ≡ length (take p t) + (length s + d) = omega arith in
      let f : o ≡ p + k + d = omega arith in
      let a : drop o (take p t ++ (s ++ drop k (drop p t))) ≡ drop o t =
      ap (λ (i : ℕ). drop i (take p t ++ (s ++ drop k (drop p t)))) e
      ∙ drop-append-add (take p t) (s ++ drop k (drop p t)) (length s + d)
      ∙ drop-append-add s (drop k (drop p t)) d
      ∙ rw (drop-drop k p t, drop-drop d (p + k) t, ← f) in
      ap (take l) a
