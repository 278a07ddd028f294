-- Passes over the shares that add by plain exclusive or, and reduce at last, leave what the field's sums leave.
-- Assumes nothing.
use mathlib.Core.Path.{◌≡◌, refl, sym, ap, ◌∙◌}
use Prim.Native.Nat.{ℕ, zero, suc, ◌+◌, ◌-◌, ◌%◌, ◌<◌}
use mathlib.Core.List.{List, [], ◌∷◌, map}
use native.Mathlib.Omega.{arith}
use native.Mathlib.Decide.{ℕ_discrete}
use native.Mathlib.Nat.{mod-mod, not-suc-le-zero, le_of_suc-le-suc}
use lib.Bits.{bit_xor}
use lib.ListN.{length, get_or, length-set, length-map}
use lib.Seq.{get_or-set_same, get_or-set_other, ext_get_or}
use Rattle.field.specs.Field.{Binary, field_of}
use Rattle.field.proofs.Fields.{sub-add, add-xor, xor_same}
use Rattle.sharing.specs.Run.{run, before, pair_turn, pairs_of, over_pairs}
use Rattle.sharing.specs.Rules.{add_at, sub_at}
use Rattle.sharing.specs.Code.Bytes.{xor_at}
use Rattle.flag.specs.Code.Passes.{reduced}

run-both : {S T : Type 0} (R : S → T → Type 0) (f : ℕ → S → S) (g : ℕ → T → T) (n : ℕ)
    → ((k : ℕ) → k < n → (s : S) (t : T) → R s t → R (f k s) (g k t)) → (s : S) (t : T) → R s t → R (run f n s) (run g n t)
unfolding run
run-both R f g zero h s t r = r
run-both R f g (suc n) h s t r =
    h n (omega arith) (run f n s) (run g n t) (run-both R f g n (λ k l. h k (omega arith)) s t r)

pub map_at : (g : ℕ → ℕ) (s : List ℕ) (i : ℕ) → i < length s → get_or (map g s) i 0 ≡ g (get_or s i 0)
map_at g [] i h = absurd (not-suc-le-zero h)
map_at g (x ∷ s) zero h = refl
map_at g (x ∷ s) (suc i) h = map_at g s i (le_of_suc-le-suc h)

module _ {f : ℕ} (B : Binary f) where
  pub add_same : (s v t w : ℕ) → s % (field_of f).q ≡ t → v % (field_of f).q ≡ w % (field_of f).q → bit_xor s v % (field_of f).q ≡ (field_of f).add t w
  add_same s v t w x y =
      xor_same B s v t w (sym (mod-mod s (field_of f).q) ∙ ap (λ (z : ℕ). z % (field_of f).q) x) y ∙ sym (add-xor B t w)

  -- n shares, and what they leave modulo q
  pub record Same (n : ℕ) (s t : List ℕ) : Type 0 where
    pub size : length s ≡ n
    pub other : length t ≡ n
    pub at : (m : ℕ) → m < n → get_or s m 0 % (field_of f).q ≡ get_or t m 0

  pub same_add : {n : ℕ} {s t : List ℕ} → Same n s t → (i v w : ℕ) → i < n → v % (field_of f).q ≡ w % (field_of f).q
      → Same n (xor_at i v s) (add_at (field_of f) i w t)
  same_add {n} {s} {t} S i v w h e =
      record {
        size = length-set s i _ ∙ S.size;
        other = length-set t i _ ∙ S.other;
        at = λ m l. elim (ℕ_discrete m i) [
          | yes z ↦
              let a : i < length s = omega (arith, S.size) in
              let b : i < length t = omega (arith, S.other) in
              rw (z, get_or-set_same s i _ 0 a, get_or-set_same t i _ 0 b) (add_same (get_or s i 0) v (get_or t i 0) w (S.at i h) e)
          | no z ↦ rw (get_or-set_other s i m _ 0 z, get_or-set_other t i m _ 0 z) (S.at m l)
        ];
      }

  pub same_sub : {n : ℕ} {s t : List ℕ} → Same n s t → (i v w : ℕ) → i < n → v % (field_of f).q ≡ w % (field_of f).q
      → Same n (xor_at i v s) (sub_at (field_of f) i w t)
  same_sub {t = t} S i v w h e = rw (sub-add B (get_or t i 0) w) (same_add S i v w h e)

  -- two loops over the pairs whose turns agree
  pub over_same : (g h : ℕ → ℕ → ℕ → List ℕ → List ℕ) (n : ℕ)
      → ((i v : ℕ) → i < n → v < n - suc i → (s t : List ℕ) → Same n s t → Same n (g (before n i + v) i (i + 1 + v) s) (h (before n i + v) i (i + 1 + v) t))
      → (s t : List ℕ) → Same n s t → Same n (over_pairs g n s) (over_pairs h n t)
  unfolding over_pairs
  over_same g h n e s t S =
      run-both (Same n) (pairs_of g n) (pairs_of h n) n
      (λ i hi s t S. run-both (Same n) (pair_turn g n i) (pair_turn h n i) (n - suc i) (λ v hv s t S. e i v hi hv s t S) s t S) s t S

  pub reduced_same : {n : ℕ} {s t : List ℕ} → Same n s t → reduced (field_of f) s ≡ t
  unfolding reduced
  reduced_same {n} {s} {t} S =
      let l : length (map (λ (w : ℕ). w % (field_of f).q) s) ≡ n = length-map s _ ∙ S.size in
      ext_get_or 0 _ _ (l ∙ sym S.other)
      (λ m h. map_at (λ w. w % (field_of f).q) s m (omega (arith, l, S.size)) ∙ S.at m (omega (arith, l)))
