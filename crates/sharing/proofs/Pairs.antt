-- Lists by their places, and loops over the pairs of n places: how many pairs there are, and what holds of a loop if it holds of each turn.
-- Assumes nothing.
use mathlib.Core.Path.{◌≡◌, refl, ap, ap₂, ◌∙◌}
use mathlib.Core.Logic.{⊎_elim}
use Prim.Native.Nat.{ℕ, zero, suc, ◌+◌, ◌-◌, ◌*◌, ◌/◌, ◌<◌, ◌≤◌}
use mathlib.Core.List.{List, [], ◌∷◌}
use native.Mathlib.Omega.{arith}
use native.Mathlib.Nat.{suc-mul, mul-suc, mul-le-mul, eq-or-lt_of_le, not-suc-le-zero, le_of_suc-le-suc}
use lib.ListN.{length, get_or}
use Rattle.sharing.specs.Run.{run, tab, before, pairs, pair_turn, pairs_of, over_pairs}
use Rattle.sharing.proofs.Loops.{run_length, run_ext, run-next}

-- ---- a list by its places

pub tab-length : (n : ℕ) (g : ℕ → ℕ) → length (tab n g) ≡ n
tab-length zero g = refl
tab-length (suc n) g = ap suc (tab-length n (λ i. g (suc i)))

pub tab-at : (n : ℕ) (g : ℕ → ℕ) (i : ℕ) → i < n → get_or (tab n g) i 0 ≡ g i
tab-at zero g i h = absurd (not-suc-le-zero h)
tab-at (suc n) g zero h = refl
tab-at (suc n) g (suc i) h = tab-at n (λ i. g (suc i)) i (le_of_suc-le-suc h)

pub tab_ext : (n : ℕ) {g h : ℕ → ℕ} → ((i : ℕ) → i < n → g i ≡ h i) → tab n g ≡ tab n h
tab_ext zero e = refl
tab_ext (suc n) {g} {h} e =
    rw (e 0 (omega arith), tab_ext n {g = λ i. g (suc i)} {h = λ i. h (suc i)} (λ i l. e (suc i) (omega arith)))

pub tab_list : (s : List ℕ) → tab (length s) (λ i. get_or s i 0) ≡ s
tab_list [] = refl
tab_list (x ∷ s) = ap (◌∷◌ x) (tab_list s)

-- ---- the number of pairs

pub before_mono : (n i k : ℕ) → i ≤ k → before n i ≤ before n k
before_mono n i zero h = let e : i ≡ 0 = omega arith in rw e (omega arith)
before_mono n i (suc k) h =
    ⊎_elim (λ (e : i ≡ suc k). rw e (omega arith))
    (λ (g : suc i ≤ suc k). omega (arith, before_mono n i k (le_of_suc-le-suc g)))
    (eq-or-lt_of_le h)

-- the pairs of i are among all pairs
pub pairs_room : (n i : ℕ) → i < n → before n i + (n - suc i) ≤ pairs n
pairs_room n i h = before_mono n (suc i) n h

-- the pair (i, i + 1 + u) is one of them
pub pair_lt : (n i u : ℕ) → i < n → u < n - suc i → before n i + u < pairs n
pair_lt n i u hi hu = omega (arith, pairs_room n i hi)

before-suc : (n i : ℕ) → before (suc n) (suc i) ≡ n + before n i
before-suc n zero = omega arith
before-suc n (suc i) = omega (arith, before-suc n i)

pairs-suc : (n : ℕ) → pairs (suc n) * 2 ≡ suc n * n
pairs-suc zero = refl
pairs-suc (suc n) =
    omega (arith, before-suc (suc n) (suc n), pairs-suc n, suc-mul (suc n) (suc n), mul-suc (suc n) n)

pub pairs-double : (n : ℕ) → pairs n * 2 ≡ n * (n - 1)
pairs-double zero = refl
pairs-double (suc n) = let e : suc n - 1 ≡ n = omega arith in rw e (pairs-suc n)

-- N as the code works it out, and its bound for the shares that are taken
pub pairs_count : (n : ℕ) → n * (n - 1) / 2 ≡ pairs n
pairs_count n = omega (arith, pairs-double n)

pub pairs_small : (n : ℕ) → n ≤ 4 → pairs n ≤ 6
pairs_small n h = omega (arith, pairs-double n, mul-le-mul {n₁ = n} {m₁ = n - 1} {n₂ = 4} {m₂ = 3} h (omega arith))

-- the number of the pair (i, j), as a loop that counts beside its two places has it
pub pair_number : (n i j k : ℕ) → k + (i + 1) ≡ before n i + j → i < j → j < n → k < pairs n
pair_number n i j k e l h = omega (arith, pair_lt n i (j - suc i) (omega arith) (omega arith))

-- ---- loops

-- a turn of such a loop
pub pair-next : {S : Type 0} (turn : ℕ → ℕ → ℕ → S → S) (n i j k : ℕ) (s₀ s t : S) → i < j → k + (i + 1) ≡ before n i + j
    → s ≡ run (pair_turn turn n i) (j - (i + 1)) s₀ → t ≡ turn k i j s → t ≡ run (pair_turn turn n i) (j + 1 - (i + 1)) s₀
pair-next turn n i j k s₀ s t l e p q =
    let a : j + 1 - (i + 1) ≡ j - (i + 1) + 1 = omega arith in
    let b : k ≡ before n i + (j - (i + 1)) = omega arith in
    let d : j ≡ i + 1 + (j - (i + 1)) = omega arith in
    rw a (run-next (pair_turn turn n i) (j - (i + 1)) s₀ s t p (q ∙ ap₂ (λ (x y : ℕ). turn x i y s) b d))

-- what each turn carries on holds in the end
pub run_holds : {S : Type 0} (P : ℕ → S → Type 0) (turn : ℕ → S → S) (n : ℕ) → ((k : ℕ) → k < n → (s : S) → P k s → P (suc k) (turn k s))
    → (s : S) → P 0 s → P n (run turn n s)
unfolding run
run_holds P turn zero h s p = p
run_holds P turn (suc n) h s p =
    h n (omega arith) (run turn n s) (run_holds P turn n (λ k l. h k (omega arith)) s p)

-- two loops whose turns agree on lists of length n, which they keep
pub run_same : (f g : ℕ → List ℕ → List ℕ) (n k : ℕ) → ((i : ℕ) (s : List ℕ) → length (f i s) ≡ length s)
    → ((i : ℕ) → i < k → (s : List ℕ) → length s ≡ n → f i s ≡ g i s) → (s : List ℕ) → length s ≡ n → run f k s ≡ run g k s
unfolding run
run_same f g n zero l h s e = refl
run_same f g n (suc k) l h s e =
    h k (omega arith) (run f k s) (run_length f l k s ∙ e)
    ∙ ap (g k) (run_same f g n k l (λ i d. h i (omega arith)) s e)

pub over_length : (turn : ℕ → ℕ → ℕ → List ℕ → List ℕ) → ((k i j : ℕ) (s : List ℕ) → length (turn k i j s) ≡ length s)
    → (n : ℕ) (s : List ℕ) → length (over_pairs turn n s) ≡ length s
unfolding over_pairs
over_length turn h n s =
    run_length (pairs_of turn n)
    (λ i t. run_length (pair_turn turn n i) (λ u o. h (before n i + u) i (i + 1 + u) o) (n - suc i) t) n s

-- two loops over the pairs whose turns agree
pub over_ext : {S : Type 0} (f g : ℕ → ℕ → ℕ → S → S) (n : ℕ)
    → ((k i j : ℕ) → k < pairs n → i < n → j < n → (s : S) → f k i j s ≡ g k i j s) → (s : S) → over_pairs f n s ≡ over_pairs g n s
unfolding over_pairs
over_ext f g n h s =
    run_ext (pairs_of f n) (pairs_of g n) n
    (λ i hi t.
    run_ext (pair_turn f n i) (pair_turn g n i) (n - suc i)
    (λ u hu o. h (before n i + u) i (i + 1 + u) (pair_lt n i u hi hu) hi (omega arith) o) t)
    s
