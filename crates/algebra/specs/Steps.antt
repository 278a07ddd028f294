-- What a step does to a table of m rows and w columns of values: T before it, U after it.
-- A step for the pivot of row k in column j works in columns j and up, with another row s. In a square system k = j, w = m+1, and s is the
-- paper's k.
-- Assumes nothing.
use Rattle.std.specs.Prelude.{◌≡◌, ℕ, ◌≤◌, ◌<◌}
use Rattle.field.specs.Field.{Ops, sub, inv}
use Rattle.flag.specs.Flag.{flag_of}
use Rattle.algebra.specs.Linear.{Table}

module _ (m w : ℕ) where
  -- row r, column c is one of the table's
  abbrev pub In : ℕ → ℕ → Type 0
  In r c = (1 ≤ r) × (r ≤ m) × (1 ≤ c) × (c ≤ w)

  -- row i is f in columns j and up, and every other entry is as it was
  pub record RowIs (i j : ℕ) (f : ℕ → ℕ) (T U : Table) : Type 0 where
    pub new : (c : ℕ) → j ≤ c → c ≤ w → U i c ≡ f c
    pub kept : (r c : ℕ) → In r c → (r ≡ i → c < j) → U r c ≡ T r c

  -- R-1's exchange, which is no step of 01: rows i and s change places in columns j and up, and every other entry is as it was
  pub record Exchanges (i s j : ℕ) (T U : Table) : Type 0 where
    pub up : (c : ℕ) → j ≤ c → c ≤ w → U i c ≡ T s c
    pub down : (c : ℕ) → j ≤ c → c ≤ w → U s c ≡ T i c
    pub kept : (r c : ℕ) → In r c → (r ≡ i → c < j) → (r ≡ s → c < j) → U r c ≡ T r c

  module _ (F : Ops) where
    -- Mix: "row j += Product(flag, row k)", with the flag of T[j,j]. Not whenever the other row's entry isn't 0: "a good pivot can cancel"
    abbrev pub Mixes : ℕ → ℕ → ℕ → Table → Table → Type 0
    Mixes k j s T U = RowIs k j (λ c. F.add (T k c) (F.mul (flag_of (T k j)) (T s c))) T U

    -- Scale: "inverts T[j,j]" and multiplies the row
    abbrev pub Scales : ℕ → ℕ → Table → Table → Type 0
    Scales k j T U = RowIs k j (λ c. F.mul (inv F (T k j)) (T k c)) T U

    -- Clear: "row k += Product(copy, row j)", where the copy is T[k,j] before the step, here with the sign that clears it
    abbrev pub Clears : ℕ → ℕ → ℕ → Table → Table → Type 0
    Clears k j s T U = RowIs s j (λ c. sub F (T s c) (F.mul (T s j) (T k c))) T U

    -- Lift: each row above row k loses x, the unknown of column j, times its own entry in that column ("the factor is T[j,k] where T[k,j] is
    -- meant" in 001)
    pub record Lifts (k j x : ℕ) (T U : Table) : Type 0 where
      pub new : (r : ℕ) → 1 ≤ r → r < k → U r w ≡ sub F (T r w) (F.mul x (T r j))
      pub kept : (r c : ℕ) → In r c → (c ≡ w → k ≤ r) → U r c ≡ T r c
