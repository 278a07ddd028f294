-- Elements stay elements. Whatever a rule stores is an outcome of the field's operations, so a sharing whose shares are below q is left with
-- shares below q, and what a rule makes anew has them from the start.
-- Assumes nothing.
use Prim.Native.Nat.{ℕ, zero, suc, ◌+◌, ◌-◌, ◌<◌}
use mathlib.Core.List.{List, [], ◌∷◌, ◌++◌, map}
use native.Mathlib.Nat.{mod-lt}
use lib.ListN.{length, get_or, set, take, drop}
use lib.Seq.{get_or-drop}
use Rattle.field.specs.Field.{Ops, Ring}
use Rattle.sharing.specs.Run.{run, tab}
use Rattle.sharing.specs.Rules.{draw_at, add_at, sub_at, refresh_turn, refresh, scaled}
use Rattle.sharing.specs.Lists.{joined, Below}
use Rattle.sharing.proofs.Pairs.{run_holds}

-- ---- lists

module _ {q : ℕ} where
  pub cons_below : {x : ℕ} {s : List ℕ} → x < q → Below q s → Below q (x ∷ s)
  cons_below {x} {s} h g = record { at = at }
    where
      at : (i : ℕ) → get_or (x ∷ s) i 0 < q
      at zero = h
      at (suc i) = g.at i

  tail_below : {x : ℕ} {s : List ℕ} → Below q (x ∷ s) → Below q s
  tail_below g = record { at = λ i. g.at (suc i) }

  pub set_below : (s : List ℕ) (i : ℕ) {x : ℕ} → x < q → Below q s → Below q (set s i x)
  set_below [] i h g = g
  set_below (y ∷ s) zero h g = cons_below h (tail_below g)
  set_below (y ∷ s) (suc i) h g = cons_below (g.at 0) (set_below s i h (tail_below g))

  pub append_below : (a : List ℕ) {b : List ℕ} → Below q a → Below q b → Below q (a ++ b)
  append_below [] g h = h
  append_below (x ∷ a) g h = cons_below (g.at 0) (append_below a (tail_below g) h)

  pub drop_below : (k : ℕ) (s : List ℕ) → Below q s → Below q (drop k s)
  drop_below k s g = record { at = λ i. rw (get_or-drop k s i 0) (g.at (k + i)) }

  pub run-below : (turn : ℕ → List ℕ → List ℕ) → ((k : ℕ) (s : List ℕ) → Below q s → Below q (turn k s)) → (k : ℕ) (s : List ℕ) → Below q s
      → Below q (run turn k s)
  run-below turn h k s g = run_holds (λ (i : ℕ) (t : List ℕ). Below q t) turn k (λ i l t b. h i t b) s g

-- from here on q is not 0: there is an element
module _ {q : ℕ} (pos : 0 < q) where
  pub none_below : Below q []
  none_below = record { at = λ i. pos }

  pub take_below : (k : ℕ) (s : List ℕ) → Below q s → Below q (take k s)
  take_below zero s g = none_below
  take_below (suc k) [] g = none_below
  take_below (suc k) (x ∷ s) g = cons_below (g.at 0) (take_below k s (tail_below g))

  pub tab_below : (n : ℕ) (g : ℕ → ℕ) → ((i : ℕ) → g i < q) → Below q (tab n g)
  tab_below zero g h = none_below
  tab_below (suc n) g h = cons_below (h 0) (tab_below n (λ i. g (suc i)) (λ i. h (suc i)))

  map_below : (g : ℕ → ℕ) → ((x : ℕ) → g x < q) → (s : List ℕ) → Below q (map g s)
  map_below g h [] = none_below
  map_below g h (x ∷ s) = cons_below (h x) (map_below g h s)

-- ---- the rules

module _ (F : Ops) (R : Ring F) where
  pub draw-lt : (ds : List ℕ) (k : ℕ) → draw_at F ds k < F.q
  draw-lt ds k = mod-lt (get_or ds k 0) R.pos

  add_below : (i v : ℕ) (s : List ℕ) → Below F.q s → Below F.q (add_at F i v s)
  add_below i v s g = set_below s i (R.add_lt (get_or s i 0) v) g

  sub_below : (i v : ℕ) (s : List ℕ) → Below F.q s → Below F.q (sub_at F i v s)
  sub_below i v s g = set_below s i (R.add_lt (get_or s i 0) (F.neg v)) g

  pub refresh_below : (ds s : List ℕ) → Below F.q s → Below F.q (refresh F ds s)
  unfolding refresh refresh_turn
  refresh_below ds s g =
      run-below (refresh_turn F ds) (λ k t b. sub_below 0 (draw_at F ds k) _ (add_below (k + 1) (draw_at F ds k) t b)) (length s - 1) s g

  pub scaled_below : (z : ℕ) (s : List ℕ) → Below F.q (scaled F z s)
  unfolding scaled
  scaled_below z s = map_below R.pos (F.mul z) (R.mul-lt z) s

  pub joined_below : (op : ℕ → ℕ → ℕ) → ((a b : ℕ) → op a b < F.q) → (s v : List ℕ) → Below F.q (joined op s v)
  unfolding joined
  joined_below op h s v = tab_below R.pos (length s) _ (λ i. h (get_or s i 0) (get_or v i 0))
