-- What the answer of a system of m equations means: combinations of columns, and what "solved with x" and "stopped at j" say of its values.
-- Rows and columns are numbered from 1: T = [A | b] has the unknowns' columns 1 to m, and b in column m+1.
-- Assumes nothing.
use Rattle.std.specs.Prelude.{◌≡◌, List, ℕ, zero, suc, ◌+◌, ◌-◌, ◌%◌, ◌≤◌, ◌<◌, length, get_or, replicate}
use Rattle.field.specs.Field.{Ops}

-- values by row, then column
abbrev pub Table : Type 0
Table = ℕ → ℕ → ℕ

-- a_1·v_1 + .. + a_k·v_k
unfoldable pub combination : Ops → (ℕ → ℕ) → (ℕ → ℕ) → ℕ → ℕ
combination F a v zero = 0
combination F a v (suc k) = F.add (combination F a v k) (F.mul (a (suc k)) (v (suc k)))

-- the answer of a system: solved, or stopped at a column
pub data Answer : Type 0 where
  solved : Answer
  stopped : ℕ → Answer

-- the bytes of the solution that a call leaves beside its answer: one for each unknown, and 0 on stopped
abbrev pub Left : ℕ → Answer → List ℕ → Type 0
Left m solved x = length x ≡ m
Left m (stopped j) x = x ≡ replicate m 0

module _ (F : Ops) (m : ℕ) (T : Table) where
  -- in each of the m equations the columns before column j, taken with the factors v, add up to column j
  pub record Combines (j : ℕ) (v : ℕ → ℕ) : Type 0 where
    pub holds : (r : ℕ) → 1 ≤ r → r ≤ m → combination F (T r) v (j - 1) ≡ T r j

  -- the columns before column j do not combine to it
  abbrev pub Apart : ℕ → Type 0
  Apart j = (v : ℕ → ℕ) → Combines j v → ⊥

  -- x solves the equations: the columns 1..m, taken with it, add up to b
  abbrev pub Solves : (ℕ → ℕ) → Type 0
  Solves x = Combines (m + 1) x

  -- solved with x: the columns are independent, x solves the equations, and no other x does.
  -- (Without the first, a singular system would count as solved "because b happens to fit".)
  pub record IsSolved (x : ℕ → ℕ) : Type 0 where
    pub independent : (j : ℕ) → 1 ≤ j → j ≤ m → Apart j
    pub solves : Solves x
    pub only : (y : ℕ → ℕ) → Solves y → (c : ℕ) → 1 ≤ c → c ≤ m → y c % F.q ≡ x c

  -- stopped at j: column j is the first that the columns before it combine to. No columns at all combine only to the zero column
  pub record IsStopped (j : ℕ) : Type 0 where
    pub low : 1 ≤ j
    pub high : j ≤ m
    pub factors : ℕ → ℕ
    pub combines : Combines j factors
    pub first : (i : ℕ) → 1 ≤ i → i < j → Apart i

  -- what an answer, with the bytes of the solution, says of the values: x_j is byte j-1
  abbrev pub Means : Answer → List ℕ → Type 0
  Means solved x = IsSolved (λ c. get_or x (c - 1) 0)
  Means (stopped j) x = IsStopped j
