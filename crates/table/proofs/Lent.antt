-- How long a lent part is, and what a loop over the shares of two sharings leaves.
-- Assumes nothing.
use mathlib.Core.Path.{◌≡◌, refl, ap, ◌∙◌}
use Prim.Native.Nat.{ℕ, zero, suc, ◌+◌, ◌-◌, ◌≤◌}
use mathlib.Core.List.{List, [], ◌∷◌}
use native.Mathlib.Omega.{arith}
use lib.ListN.{length, get_or, take, drop, length-drop}
use Rattle.sharing.specs.Run.{run, tab}
use Rattle.sharing.specs.Lists.{joined}
use Rattle.sharing.proofs.Loops.{run_done, rest}
use Rattle.sharing.proofs.Each.{each}
use Rattle.table.proofs.Parts.{part-lent, part_length}

-- ---- what is lent

-- `&t[p..p + k]` has k bytes
pub lent_length : (k p : ℕ) (t : List ℕ) → p + k ≤ length t → length (take (p + k - p) (drop p t)) ≡ k
lent_length k p t h = ap length (part-lent k p t) ∙ part_length k p t h

-- `&ds[d..]` has k draws
pub rest_room : (d k : ℕ) (ds : List ℕ) → d + k ≤ length ds → k ≤ length (take (length ds - d) (drop d ds))
rest_room d k ds h = rw (rest d ds, length-drop d ds) (omega arith)

-- ---- `for i in 0..s.len() { s[i] = op(s[i], v[i]); }`

-- the first turn is over place 0, and the others are over the rest
each_first : (h : ℕ → ℕ → ℕ) (k x : ℕ) (s : List ℕ) → run (each h) (suc k) (x ∷ s) ≡ h 0 x ∷ run (each (λ i. h (suc i))) k s
unfolding run
each_first h zero x s = refl
each_first h (suc k) x s = ap (each h (suc k)) (each_first h k x s)

each_shares : (h : ℕ → ℕ → ℕ) (s : List ℕ) → run (each h) (length s) s ≡ tab (length s) (λ i. h i (get_or s i 0))
unfolding run
each_shares h [] = refl
each_shares h (x ∷ s) = each_first h (length s) x s ∙ ap {B = List ℕ} (λ t. h 0 x ∷ t) (each_shares (λ i. h (suc i)) s)

-- turn i
abbrev pub join_share : (ℕ → ℕ → ℕ) → List ℕ → ℕ → List ℕ → List ℕ
join_share op v = each (λ i x. op x (get_or v i 0))

-- the loop is left
pub joined-all : (op : ℕ → ℕ → ℕ) (v : List ℕ) (k : ℕ) (s₀ s : List ℕ) → s ≡ run (join_share op v) k s₀ → k ≡ length s₀ → s ≡ joined op s₀ v
unfolding joined
joined-all op v k s₀ s i e =
    run_done (join_share op v) k (length s₀) s₀ s i e ∙ each_shares (λ i x. op x (get_or v i 0)) s₀
