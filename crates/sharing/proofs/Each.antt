-- Loops that store to each place of a list in turn: what a run of such turns is in whole, as `map` or as `tab`.
-- Assumes nothing.
use mathlib.Core.Path.{◌≡◌, refl, ap, ◌∙◌}
use Prim.Native.Nat.{ℕ, zero, suc, ◌<◌, ◌≤◌}
use native.Mathlib.Omega.{arith}
use native.Mathlib.Nat.{not-suc-le-zero, le_of_suc-le-suc, le_refl}
use mathlib.Core.List.{List, [], ◌∷◌, ◌++◌, map}
use lib.ListN.{length, get_or, set, replicate}
use lib.Seq.{get_or-set_other}
use Rattle.sharing.specs.Run.{run, tab}
use Rattle.sharing.proofs.Loops.{run_done}

-- turn k: what stands at place k becomes h of k and of it
abbrev pub each : (ℕ → ℕ → ℕ) → ℕ → List ℕ → List ℕ
each h k s = set s k (h k (get_or s k 0))

-- the first turn is over place 0, and the others are over the rest
each-cons : (h : ℕ → ℕ → ℕ) (k x : ℕ) (s : List ℕ) → run (each h) (suc k) (x ∷ s) ≡ h 0 x ∷ run (each (λ i. h (suc i))) k s
unfolding run
each-cons h zero x s = refl
each-cons h (suc k) x s = ap (each h (suc k)) (each-cons h k x s)

each_all : (g : ℕ → ℕ) (s : List ℕ) → run (each (λ i. g)) (length s) s ≡ map g s
unfolding run
each_all g [] = refl
each_all g (x ∷ s) = each-cons (λ i. g) (length s) x s ∙ ap {B = List ℕ} (λ t. g x ∷ t) (each_all g s)

each_place : (g : ℕ → ℕ) (s : List ℕ) → run (each (λ i x. g i)) (length s) s ≡ tab (length s) g
unfolding run
each_place g [] = refl
each_place g (x ∷ s) = each-cons (λ i x. g i) (length s) x s ∙ ap {B = List ℕ} (λ t. g 0 ∷ t) (each_place (λ i. g (suc i)) s)

-- `for i in 0..s.len() { s[i] = g(s[i]); }` is left
pub each_map : (g : ℕ → ℕ) (k : ℕ) (s₀ s : List ℕ) → s ≡ run (each (λ i. g)) k s₀ → k ≡ length s₀ → s ≡ map g s₀
each_map g k s₀ s i e = run_done (each (λ i. g)) k (length s₀) s₀ s i e ∙ each_all g s₀

-- `for i in 0..s.len() { s[i] = g(i); }` is left
pub each-tab : (g : ℕ → ℕ) (k : ℕ) (s₀ s : List ℕ) → s ≡ run (each (λ i x. g i)) k s₀ → k ≡ length s₀ → s ≡ tab k g
each-tab g k s₀ s i e = rw e (run_done (each (λ i x. g i)) k (length s₀) s₀ s i e ∙ each_place g s₀)

tab-zero : (m : ℕ) → replicate m 0 ≡ tab m (λ i. 0)
tab-zero zero = refl
tab-zero (suc m) = ap {B = List ℕ} (λ t. 0 ∷ t) (tab-zero m)

-- k places of m zeros filled so, then v stored: the list of these, and 0 in each place that is not in use
pub each_last : (g : ℕ → ℕ) (m k v : ℕ) → k < m → set (run (each (λ i x. g i)) k (replicate m 0)) k v ≡ tab m (λ i. get_or (tab k g ++ (v ∷ [])) i 0)
unfolding run
each_last g zero k v l = absurd (not-suc-le-zero l)
each_last g (suc m) zero v l = ap {B = List ℕ} (λ t. v ∷ t) (tab-zero m)
each_last g (suc m) (suc k) v l =
    ap {B = List ℕ} (λ t. set t (suc k) v) (each-cons (λ i x. g i) k 0 (replicate m 0))
    ∙ ap {B = List ℕ} (λ t. g 0 ∷ t) (each_last (λ i. g (suc i)) m k v (le_of_suc-le-suc l))

-- `for i in 0..s.len() { s[i] = h(i, s[i]); }` is left
each_both : (h : ℕ → ℕ → ℕ) (s : List ℕ) → run (each h) (length s) s ≡ tab (length s) (λ i. h i (get_or s i 0))
unfolding run
each_both h [] = refl
each_both h (x ∷ s) = each-cons h (length s) x s ∙ ap {B = List ℕ} (λ t. h 0 x ∷ t) (each_both (λ i. h (suc i)) s)

pub each-own : (h : ℕ → ℕ → ℕ) (k : ℕ) (s₀ s : List ℕ) → s ≡ run (each h) k s₀ → k ≡ length s₀ → s ≡ tab (length s₀) (λ i. h i (get_or s₀ i 0))
each-own h k s₀ s i e = run_done (each h) k (length s₀) s₀ s i e ∙ each_both h s₀

-- what the loop has not come to is as it was
pub each_left : (h : ℕ → ℕ → ℕ) (k : ℕ) (s₀ s : List ℕ) → s ≡ run (each h) k s₀ → get_or s k 0 ≡ get_or s₀ k 0
unfolding run
each_left h k s₀ s e = ap (λ (t : List ℕ). get_or t k 0) e ∙ go k (le_refl k)
  where
    go : (i : ℕ) → i ≤ k → get_or (run (each h) i s₀) k 0 ≡ get_or s₀ k 0
    go zero l = refl
    go (suc i) l = get_or-set_other (run (each h) i s₀) i k _ 0 (λ z. omega arith) ∙ go i (omega arith)

-- a list by its places
pub tab-map : (g : ℕ → ℕ) (s : List ℕ) → tab (length s) (λ i. g (get_or s i 0)) ≡ map g s
tab-map g [] = refl
tab-map g (x ∷ s) = ap {B = List ℕ} (λ t. g x ∷ t) (tab-map g s)
