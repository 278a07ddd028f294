-- What the answer of a wide system of m equations means: which columns have pivots, and what "found with x" and "short" say of its values.
-- Rows and columns are numbered from 1: T = [A | b] has the unknowns' columns 1 to C, of which there may be more than m, and b in column C+1.
-- Assumes nothing.
use Rattle.std.specs.Prelude.{◌≡◌, List, ◌≢◌, ℕ, ◌+◌, ◌-◌, ◌%◌, ◌≤◌, ◌<◌, length, get_or, replicate}
use Rattle.field.specs.Field.{Ops}
use Rattle.algebra.specs.Linear.{Table, Combines, Apart, Answer, solved, stopped}

-- A pattern is the list of the pivots' columns: the pivot of row i is in column `pivot_at ps i`. The rank is the length of the pattern
unfoldable pub pivot_at : List ℕ → ℕ → ℕ
pivot_at ps i = get_or ps (i - 1) 0

-- column c is passed over: no row has its pivot there
abbrev pub Passed : List ℕ → ℕ → Type 0
Passed ps c = (i : ℕ) → 1 ≤ i → i ≤ length ps → pivot_at ps i ≢ c

-- the answer of a wide system: a solution is found, or the rank is short of the number of equations
pub data WideAnswer : Type 0 where
  found : WideAnswer
  short : WideAnswer

-- the bytes of the solution that a call leaves beside its answer: one for each of the C unknowns, and 0 on short
abbrev pub WideLeft : ℕ → WideAnswer → List ℕ → Type 0
WideLeft C found x = length x ≡ C
WideLeft C short x = x ≡ replicate C 0

-- "On a square system it is short exactly where the base stops"
abbrev pub on_square : Answer → WideAnswer
on_square solved = found
on_square (stopped j) = short

module _ (F : Ops) (m : ℕ) (T : Table) (C : ℕ) where
  -- x solves the equations: the columns 1..C, taken with it, add up to b
  abbrev pub WideSolves : (ℕ → ℕ) → Type 0
  WideSolves x = Combines F m T (C + 1) x

  -- "The pivots are exactly those columns that the columns before them don't combine to", each further right than the one before
  pub record IsPattern (ps : List ℕ) : Type 0 where
    pub inside : (i : ℕ) → 1 ≤ i → i ≤ length ps → (1 ≤ pivot_at ps i) × (pivot_at ps i ≤ C)
    pub rises : (i k : ℕ) → 1 ≤ i → i < k → k ≤ length ps → pivot_at ps i < pivot_at ps k
    pub apart : (i : ℕ) → 1 ≤ i → i ≤ length ps → Apart F m T (pivot_at ps i)
    pub combines : (c : ℕ) → 1 ≤ c → c ≤ C → Passed ps c → (v : ℕ → ℕ) × Combines F m T c v

  -- found with x: every row has a pivot, x solves the equations with zeros outside the pivots, and no other x does
  pub record IsFound (ps : List ℕ) (x : ℕ → ℕ) : Type 0 where
    pub pattern : IsPattern ps
    pub full : length ps ≡ m
    pub solves : WideSolves x
    pub zeros : (c : ℕ) → 1 ≤ c → c ≤ C → Passed ps c → x c ≡ 0
    pub only : (y : ℕ → ℕ) → WideSolves y → ((c : ℕ) → 1 ≤ c → c ≤ C → Passed ps c → y c % F.q ≡ 0) → (c : ℕ) → 1 ≤ c → c ≤ C
        → y c % F.q ≡ x c

  -- short: the rank is below the number of rows. (Whether b happens to fit is not asked.)
  pub record IsShort (ps : List ℕ) : Type 0 where
    pub pattern : IsPattern ps
    pub low : length ps < m

  -- what an answer says of the values, with the pattern that was found and the bytes of the solution: x_c is byte c-1
  abbrev pub WideMeans : WideAnswer → List ℕ → List ℕ → Type 0
  WideMeans found ps x = IsFound ps (λ c. get_or x (c - 1) 0)
  WideMeans short ps x = IsShort ps
