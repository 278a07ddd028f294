-- The loops over columns and unknowns, a turn at a time: what is left to do from here is what was to be done at the start.
-- Assumes nothing.
use mathlib.Core.List.{List}
use mathlib.Core.Path.{◌≡◌, refl}
use Prim.Native.Nat.{ℕ, zero, suc, ◌+◌, ◌-◌, ◌<◌, ◌≤◌}
use lib.ListN.{set, replicate}
use borrow.Author.Tests.{lt-ltb, le-ltb}
use Rattle.table.specs.Steps.{lift}
use Rattle.algebra.specs.Linear.{solved, stopped}
use Rattle.verdict.specs.Calls.{gives, after}
use Rattle.plain.specs.Elimination.{at, seek, column, going, halted, eliminate, unknowns, conclude, solves}
use Rattle.plain.specs.Calls.{plain_does}

module _ (f m : ℕ) where
  pub eliminate-end : (j : ℕ) (t : List ℕ) → eliminate f m zero j t ≡ going t
  unfolding eliminate
  eliminate-end j t = refl

  module _ {n left : ℕ} (j : ℕ) (t : List ℕ) {k : ℕ} (g : n ≡ suc left) (e : seek (m + 1) j t (m + 1 - j) j ≡ k) where
    pub eliminate_stop : m < k → eliminate f m n j t ≡ halted j
    unfolding eliminate
    eliminate_stop h = rw (g, e, lt-ltb m k h)

    pub eliminate_on : k ≤ m → eliminate f m n j t ≡ eliminate f m left (j + 1) (column f m j k t)
    unfolding eliminate
    eliminate_on h = rw (g, e, le-ltb m k h)

  pub unknowns-end : (t x : List ℕ) → unknowns f m zero t x ≡ x
  unfolding unknowns
  unknowns-end t x = refl

  pub unknowns_on : {n left : ℕ} (t x : List ℕ) {v : ℕ} → n ≡ suc left → at (m + 1) t n (m + 1) ≡ v
      → unknowns f m n t x ≡ unknowns f m left (lift f 1 (m + 1) n n v t) (set x left v)
  unfolding unknowns
  unknowns_on {n} {left} t x g e = let d : at (m + 1) t (suc left) (m + 1) ≡ _ = rw g at e in rw (g, d)

-- what is done, from what the elimination has come to
module _ (f m : ℕ) (values x : List ℕ) where
  pub does_going : (t y : List ℕ) → going t ≡ eliminate f m m 1 values → y ≡ unknowns f m m t x → after (gives solved) y ≡ plain_does f m values x
  unfolding plain_does solves conclude
  does_going t y e d = rw (← e, d)

  pub does_halted : (j : ℕ) (y : List ℕ) → halted j ≡ eliminate f m m 1 values → y ≡ replicate m 0
      → after (gives (stopped j)) y ≡ plain_does f m values x
  unfolding plain_does solves conclude
  does_halted j y e d = rw (← e, d)
