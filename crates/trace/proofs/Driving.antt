-- Of any host that makes calls one after the other: a run is its calls one by one, a tape that begins with the draws of two parts begins with
-- each, and a host whose calls are accepted up to its end has as many accepted calls as it made.
-- Assumes nothing.
use mathlib.Core.List.{List, [], ◌∷◌, ◌++◌}
use mathlib.Core.Logic.{◌⊎◌, ⊎_elim}
use mathlib.Core.Path.{◌≡◌, refl, sym, ap, ◌∙◌}
use Prim.Native.Nat.{ℕ, zero, suc, ◌+◌, ◌-◌, ◌≤◌, ◌<◌}
use native.Mathlib.Nat.{le_refl, mod-eq_of_lt}
use native.Mathlib.Decide.{dec_lt}
use native.Mathlib.Omega.{arith}
use lib.ListN.{length, get_or, take, drop, replicate, length-append, length-drop, get_or-append, get_or-replicate}
use lib.Seq.{take-add, drop_at, length-take-le, get_or-take, get_or-append-add}
use Rattle.field.specs.Field.{draw, field_of}
use Rattle.field.proofs.Fields.{field_of_lem}
use Rattle.sharing.specs.Rules.{draw_at}
use Rattle.sharing.specs.Lists.{SameDraws}
use Rattle.sharing.proofs.Draws.{same_drop, same_longer}
use Rattle.trace.specs.Driving.{Beside, drive_by, calls_by, driven_by, NoneZero, Begins}

-- a tape that begins with the draws of a and b begins with those of a, and goes on with those of b
module _ (f : ℕ) (a b : List ℕ) {ds : List ℕ} (d : Begins f (a ++ b) ds) where
  pub begins_front : Begins f a ds
  begins_front =
      record { at = λ i h. (same_longer (field_of f) a b (le_refl _)).at i h ∙ d.at i (omega (arith, length-append a b)) }

  pub begins_back : {k : ℕ} → length b ≡ k → SameDraws (field_of f) k b (drop (length a) ds)
  begins_back e =
      rw (← e) (rw drop_at at (same_drop (field_of f) (length a) (length b) (omega (arith, length-append a b)) d))

-- the draws of two parts, none of which is 0
pub both_drawn : (f : ℕ) (a b : List ℕ) → NoneZero f a → NoneZero f b → NoneZero f (a ++ b)
both_drawn f a b g h k l e = elim (dec_lt k (length a)) [
  | yes i ↦ g k i (ap (draw (field_of f)) (sym (get_or-append a b 0 k i)) ∙ e)
  | no n ↦
      let j : length a + (k - length a) ≡ k = omega arith in
      h (k - length a) (omega (arith, length-append a b))
      (ap (draw (field_of f)) (sym (get_or-append-add a b (k - length a) 0) ∙ ap (λ (i : ℕ). get_or (a ++ b) i 0) j) ∙ e)
]

-- ---- parts of a tape

own-length : (k : ℕ) (l : List ℕ) → take k l ≡ take (length (take k l)) l
own-length zero l = refl
own-length (suc k) [] = refl
own-length (suc k) (x ∷ l) = ap (◌∷◌ x) (own-length k l)

-- a beginning of a tape, and the next part of it
pub cut-more : (ds tape : List ℕ) (b : ℕ) → ds ≡ take (length ds) tape
    → ds ++ take b (drop (length ds) tape) ≡ take (length (ds ++ take b (drop (length ds) tape))) tape
cut-more ds tape b e =
    let all : ds ++ take b (drop (length ds) tape) ≡ take (length ds + b) tape =
    ap (λ (l : List ℕ). l ++ take b (drop (length ds) tape)) e ∙ sym (take-add (length ds) b tape) in
    rw all (own-length (length ds + b) tape)

pub cut_begins : (f : ℕ) (ds tape : List ℕ) → ds ≡ take (length ds) tape → Begins f ds tape
cut_begins f ds tape e =
    record {
      at = λ i h. ap (draw (field_of f)) (ap (λ (l : List ℕ). get_or l i 0) e ∙ get_or-take (length ds) tape i 0 h);
    }

pub part_long : (a c full : ℕ) (tape : List ℕ) → a + c ≤ full → full ≤ length tape → length (take c (drop a tape)) ≡ c
part_long a c full tape h g = length-take-le c (drop a tape) (rw length-drop (omega arith))

-- draws, and n ones behind them
abbrev pub padded : List ℕ → ℕ → List ℕ
padded ds n = ds ++ replicate n 1

pub padded_begins : (f : ℕ) (ds : List ℕ) (n : ℕ) → Begins f ds (padded ds n)
padded_begins f ds n = same_longer (field_of f) ds (replicate n 1) (le_refl _)

pub padded_drawn : (f : ℕ) (ds : List ℕ) (n : ℕ) → NoneZero f ds → (k : ℕ) → k < n → draw_at (field_of f) (padded ds n) k ≡ 0 → ⊥
padded_drawn f ds n g k h e = elim (dec_lt k (length ds)) [
  | yes l ↦ g k l (ap (draw (field_of f)) (sym (get_or-append ds (replicate n 1) 0 k l)) ∙ e)
  | no m ↦
      let i : ℕ = k - length ds in
      let j : length ds + i ≡ k = omega arith in
      let one : get_or (padded ds n) k 0 ≡ 1 =
      ap (λ (z : ℕ). get_or (padded ds n) z 0) (sym j) ∙ get_or-append-add ds (replicate n 1) i 0 ∙ get_or-replicate n i 1 0 (omega arith) in
      let z : ◌≡◌ {A = ℕ} 1 0 = sym (mod-eq_of_lt (field_of_lem f).one-lt) ∙ ap (draw (field_of f)) (sym one) ∙ e in
      omega arith
]

-- ---- calls

module _ {H : Type 0} (after : H → Beside → H) where
  -- a run is its calls one by one
  pub last_by : (h : H) (cs : List Beside) (c : Beside) → drive_by after h (cs ++ (c ∷ [])) ≡ after (drive_by after h cs) c
  unfolding drive_by
  last_by h [] c = refl
  last_by h (b ∷ cs) c = last_by (after h b) cs c

  module _ (lend : H → Beside) (first : H) where
    abbrev at : ℕ → H
    at k = driven_by after lend k first

    pub next_by : (k : ℕ) → at (suc k) ≡ after (at k) (lend (at k))
    unfolding driven_by calls_by
    next_by k = last_by first (calls_by after lend k first) (lend (drive_by after first (calls_by after lend k first)))

    -- Going: there is a step to do. Its call is accepted, and where there is none a call changes nothing. So a host that has a step to do after k
    -- calls has done k
    module _ (Going : H → Type 0) (steps : H → ℕ) (none : steps first ≡ 0) (decided : (k : ℕ) → Going (at k) ⊎ (Going (at k) → ⊥))
        (accepted : (k : ℕ) → Going (at k) → steps (after (at k) (lend (at k))) ≡ steps (at k) + 1)
        (stays : (k : ℕ) → (Going (at k) → ⊥) → after (at k) (lend (at k)) ≡ at k) where
      pub all_by : (k : ℕ) → Going (at k) → steps (at k) ≡ k
      unfolding driven_by calls_by drive_by
      all_by zero g = none
      all_by (suc k) g =
          ⊎_elim (λ (d : Going (at k)). ap steps (next_by k) ∙ omega (arith, accepted k d, all_by k d))
          (λ (d : Going (at k) → ⊥). absurd (d (rw (next_by k ∙ stays k d) at g))) (decided k)
