-- Counted loops and lists by their places, as definitions.
-- Assumes nothing.
use Rattle.std.specs.Prelude.{ℕ, zero, suc, ◌+◌, ◌-◌, List, [], ◌∷◌}

-- turn 0, turn 1, .., turn (k - 1), in order, from s
unfoldable pub run : {S : Type 0} → (ℕ → S → S) → ℕ → S → S
run turn zero s = s
run turn (suc k) s = turn k (run turn k s)

-- g 0, g 1, .., g (k - 1)
abbrev pub tab : ℕ → (ℕ → ℕ) → List ℕ
tab zero g = []
tab (suc k) g = g 0 ∷ tab k (λ i. g (suc i))

-- how many pairs i < j of n places come before those of i
abbrev pub before : ℕ → ℕ → ℕ
before n zero = 0
before n (suc i) = before n i + (n - suc i)

-- N, the number of pairs: n(n-1)/2
abbrev pub pairs : ℕ → ℕ
pairs n = before n n

-- a turn for each pair i < j of n places, in the order 12, 13, .., 23, ..: its number from 0, i and j
abbrev pub pair_turn : {S : Type 0} → (ℕ → ℕ → ℕ → S → S) → ℕ → ℕ → ℕ → S → S
pair_turn turn n i u s = turn (before n i + u) i (i + 1 + u) s

abbrev pub pairs_of : {S : Type 0} → (ℕ → ℕ → ℕ → S → S) → ℕ → ℕ → S → S
pairs_of turn n i s = run (pair_turn turn n i) (n - suc i) s

unfoldable pub over_pairs : {S : Type 0} → (ℕ → ℕ → ℕ → S → S) → ℕ → S → S
over_pairs turn n s = run (pairs_of turn n) n s
