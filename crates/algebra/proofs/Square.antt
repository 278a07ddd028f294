-- The answer of a square system: what the wide form answers there, and how elimination leaves the answer where row i has column i's pivot.
-- The last column is m+1.
-- Assumes nothing.
use mathlib.Core.Path.{◌≡◌, refl, sym, ◌∙◌}
use mathlib.Core.List.{List}
use mathlib.Core.Logic.{◌≢◌}
use Prim.Native.Nat.{ℕ, zero, suc, ◌+◌, ◌-◌, ◌<◌, ◌≤◌}
use native.Mathlib.Omega.{arith}
use native.Mathlib.Decide.{ℕ_discrete, dec_lt}
use lib.ListN.{length}
use Rattle.field.specs.Field.{Ops, Field}
use Rattle.sharing.specs.Run.{tab}
use Rattle.algebra.specs.Linear.{Table, Apart, IsSolved, IsStopped, Answer, solved, stopped, Left, Means}
use Rattle.algebra.specs.Wide.{pivot_at, Passed, WideAnswer, found, short, WideLeft, on_square, IsPattern, IsFound, IsShort, WideMeans}
use Rattle.algebra.proofs.Outcome.{solved_once, not_both, one_answer, Small}
use Rattle.algebra.proofs.Opened.{opened}
use Rattle.algebra.proofs.Echelon.{chosen, passed}
use Rattle.algebra.proofs.Column.{Shape, Sought, shape_column, sought_pass}
use Rattle.algebra.proofs.Pattern.{Lists, lists_tab, lists_once, pattern-column, pattern_low, pattern_high, pattern-length}
use Rattle.algebra.proofs.Wide.{found_with}

-- row i has the pivot of column i
abbrev pub own : ℕ → ℕ
own i = i

-- ---- the wide form

module _ (F : Ops) (m : ℕ) (T : Table) where
  module _ {ps : List ℕ} (h : IsPattern F m T m ps) where
    -- as many pivots as columns: the pattern is 1, .., m
    full_at : length ps ≡ m → (i : ℕ) → 1 ≤ i → i ≤ m → pivot_at ps i ≡ i
    full_at e i a b =
        let low = pattern_low F m T h i a (omega arith) in let high = pattern_high F m T h (m - i) i (omega arith) a in omega arith

    pub full-pattern : length ps ≡ m → ps ≡ tab m suc
    full-pattern e = lists_once (record { count = e; at = full_at e }) (lists_tab own m)

    -- the columns 1 to i have their pivots, and column i+1 has none
    stop_after : (i : ℕ) → i ≤ length ps → length ps < m → ((c : ℕ) → 1 ≤ c → c ≤ i → pivot_at ps c ≡ c)
        → (suc i ≤ length ps → pivot_at ps (suc i) ≢ suc i) → IsStopped F m T (suc i)
    stop_after i l low before n =
        let d = h.combines (suc i) (omega arith) (omega arith) out in
        record {
          low = omega arith;
          high = omega arith;
          factors = d.0;
          combines = d.1;
          first = λ c a b. rw (before c a (omega arith)) at (h.apart c a (omega arith));
        }
      where
        out : Passed ps (suc i)
        out k a b e = elim (dec_lt i k) [
          | no g ↦ let z = before k a (omega arith) in omega arith
          | yes g ↦ elim (ℕ_discrete k (suc i)) [
            | yes f ↦ n (omega arith) (rw f at e)
            | no f ↦
                let r = h.rises (suc i) k (omega arith) (omega arith) b in
                let s = pattern_low F m T h (suc i) (omega arith) (omega arith) in
                omega arith
          ]
        ]

    stop_from : (n i : ℕ) → i + n ≡ length ps → length ps < m → ((c : ℕ) → 1 ≤ c → c ≤ i → pivot_at ps c ≡ c) → (j : ℕ) × IsStopped F m T j
    stop_from zero i e low before = (suc i, stop_after i (omega arith) low before (λ l. absurd (omega arith)))
    stop_from (suc n) i e low before = elim (ℕ_discrete (pivot_at ps (suc i)) (suc i)) [
      | yes g ↦
          stop_from n (suc i) (omega arith) low
          (λ c a b. elim (ℕ_discrete c (suc i)) [ yes f ↦ rw f g | no f ↦ before c a (omega arith) ])
      | no g ↦ (suc i, stop_after i (omega arith) low before (λ l. g))
    ]

  -- short: the square form stops at the first column that is passed over
  pub short_stopped : {ps : List ℕ} → IsShort F m T m ps → (j : ℕ) × IsStopped F m T j
  short_stopped {ps} h = stop_from h.pattern (length ps) 0 (omega arith) h.low (λ c a b. absurd (omega arith))

  module _ {ps : List ℕ} {j : ℕ} (g : IsStopped F m T j) (h : IsPattern F m T m ps) where
    -- the column that the square form stops at is passed over, and none before it is
    pub stopped_passed : Passed ps j
    stopped_passed i a b e = h.apart i a b g.factors (rw e g.combines)

    pub stopped-before : (i : ℕ) → 1 ≤ i → i < j → (i ≤ length ps) × (pivot_at ps i ≡ i)
    stopped-before i a b = go i i a b (omega arith)
      where
        go : (n i : ℕ) → 1 ≤ i → i < j → i ≤ n → (i ≤ length ps) × (pivot_at ps i ≡ i)
        go zero i a b l = absurd (omega arith)
        go (suc n) i a b l = elim (pattern-column F m T h i a (omega (arith, g.high))) [
          | chosen k x y e _ ↦ elim (ℕ_discrete k i) [
            | yes f ↦ (omega arith, rw f at e)
            | no f ↦ let z = pattern_low F m T h k x y in let before = go n k x (omega arith) (omega arith) in absurd (omega arith)
          ]
          | passed _ v c ↦ absurd (g.first i a b v c)
        ]

    pub stopped_short : IsShort F m T m ps
    stopped_short =
        record {
          pattern = h;
          low = elim (ℕ_discrete (length ps) m) [
            | yes e ↦ absurd (stopped_passed j g.low (omega (arith, g.high)) (full_at h e j g.low g.high))
            | no e ↦ omega (arith, pattern-length F m T h)
          ];
        }

  pub found_solved : {ps : List ℕ} {x : ℕ → ℕ} → IsFound F m T m ps x → IsSolved F m T x
  found_solved h =
      let at = full_at h.pattern h.full in
      let n = h.full in
      record {
        independent = λ j a b. rw (at j a b) at (h.pattern.apart j a (omega arith));
        solves = h.solves;
        only = λ y g. h.only y g (λ c a b out. absurd (out c a (omega arith) (at c a b)));
      }

  pub solved_found : {x : ℕ → ℕ} → IsSolved F m T x → IsFound F m T m (tab m suc) x
  solved_found h =
      let n = is.count in
      record {
        pattern = record {
          inside = λ i a b. let e = is.at i a (omega arith) in omega arith;
          rises = λ i k a b c. let e = is.at i a (omega arith) in let g = is.at k (omega arith) (omega arith) in omega arith;
          apart = λ i a b. rw (is.at i a (omega arith)) (h.independent i a (omega arith));
          combines = λ c a b out. absurd (never c a b out);
        };
        full = n;
        solves = h.solves;
        zeros = λ c a b out. absurd (never c a b out);
        only = λ y g _. h.only y g;
      }
    where
      is : Lists (tab m suc) own m
      is = lists_tab own m

      never : (c : ℕ) → 1 ≤ c → c ≤ m → Passed (tab m suc) c → ⊥
      never c a b out = let n = is.count in out c a (omega arith) (is.at c a b)

  pub square_found : {ps : List ℕ} {x y : ℕ → ℕ} → IsSolved F m T x → IsFound F m T m ps y
      → (ps ≡ tab m suc) × ((c : ℕ) → 1 ≤ c → c ≤ m → y c ≡ x c)
  square_found h g = (full-pattern g.pattern g.full, solved_once F m T (found_solved g) h)

  pub stopped_not_found : {j : ℕ} {ps : List ℕ} {x : ℕ → ℕ} → IsStopped F m T j → IsFound F m T m ps x → ⊥
  stopped_not_found h g = not_both F m T (found_solved g) h

  pub solved_not_short : {ps : List ℕ} {x : ℕ → ℕ} → IsSolved F m T x → IsShort F m T m ps → ⊥
  solved_not_short h g = not_both F m T h (short_stopped g).1

  -- "On a square system it is short exactly where the base stops, and solves to the same x"
  pub square_wide : (a : Answer) (b : WideAnswer) (ps x y : List ℕ) → Means F m T a x → Left m a x → WideMeans F m T m b ps y → WideLeft m b y
      → (b ≡ on_square a) × (y ≡ x)
  square_wide solved found ps x y h lx g ly = (refl, (one_answer F m T solved solved y x (found_solved g) ly h lx).1)
  square_wide solved short ps x y h lx g ly = absurd (solved_not_short h g)
  square_wide (stopped j) found ps x y h lx g ly = absurd (stopped_not_found h g)
  square_wide (stopped j) short ps x y h lx g ly = (refl, ly ∙ sym lx)

-- ---- from elimination

module _ (F : Ops) (L : Field F) (m : ℕ) {T U : Table} where
  -- the columns of the pivots are apart
  shape_apart : {j : ℕ} → j ≤ m → Shape F L m (m + 1) T own j j U → (c : ℕ) → 1 ≤ c → c ≤ j → Apart F m T c
  shape_apart l h c a b = elim (shape_column F L m (m + 1) (omega arith) h c a b) [
    | chosen _ _ _ _ f ↦ f
    | passed out _ _ ↦ absurd (out c a b refl)
  ]

  -- column j+1 has no pivot
  pub stopped-at : {j : ℕ} → suc j ≤ m → Sought F L m (m + 1) T own j j m U → U (suc j) (suc j) ≡ 0 → IsStopped F m T (suc j)
  stopped-at {j} l h e =
      elim (shape_column F L m (m + 1) (omega arith) (sought_pass F L m (m + 1) l (omega arith) h e) (suc j) (omega arith) (omega arith)) [
        | chosen i a b is _ ↦ absurd (omega arith)
        | passed _ v g ↦
            record {
              low = omega arith;
              high = l;
              factors = v;
              combines = g;
              first = λ i a k. shape_apart (omega arith) h.shape i a (omega arith);
            }
      ]

  -- every column has its pivot, and x has the unknowns that are opened
  pub solved-with : Small F T → Shape F L m (m + 1) T own m m U → {x : ℕ → ℕ}
      → ((c : ℕ) → 1 ≤ c → c ≤ m → x c ≡ opened F own U m (λ r. U r (m + 1)) c) → IsSolved F m T x
  solved-with small h e = found_solved F m T (found_with F L m m small (lists_tab own m) h e)
