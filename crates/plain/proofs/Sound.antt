-- Demand 2, of values: elimination with exchange of rows, and back substitution, give the answer that the values have.
-- Assumes nothing.
use mathlib.Core.List.{List}
use mathlib.Core.Logic.{◌≢◌}
use mathlib.Core.Path.{◌≡◌, refl, sym, ◌∙◌, subst}
use Prim.Native.Nat.{ℕ, zero, suc, ◌+◌, ◌-◌, ◌≤◌}
use native.Mathlib.Decide.{dec_lt}
use native.Mathlib.Nat.{le_refl}
use native.Mathlib.Numerals.{sub-one}
use native.Mathlib.Omega.{arith}
use lib.ListN.{length, get_or, set, length-set}
use lib.Seq.{get_or-set_same, get_or-set_other}
use Rattle.field.specs.Field.{Ops, Field, field_of}
use Rattle.field.proofs.Fields.{field_of_lem}
use Rattle.sharing.proofs.Pairs.{run_holds}
use Rattle.table.specs.Steps.{lift}
use Rattle.algebra.specs.Linear.{Table, IsStopped, Left, Means}
use Rattle.algebra.specs.Steps.{In}
use Rattle.algebra.proofs.Outcome.{Small}
use Rattle.algebra.proofs.Rows.{exchange_work}
use Rattle.algebra.proofs.Echelon.{ech_zeros}
use Rattle.algebra.proofs.Opened as A
use Rattle.algebra.proofs.Column as C
use Rattle.algebra.proofs.Square.{own, stopped-at, solved-with}
use Rattle.plain.specs.Elimination.{at, seek, exchange, scale, clear, clear_below, column, Worked, going, halted, eliminate, unknowns, conclude, solves}
use Rattle.plain.proofs.Pivot.{met}
use Rattle.plain.proofs.Turns.{eliminate-end, eliminate_stop, eliminate_on, unknowns-end, unknowns_on}
use Rattle.plain.proofs.Entries.{Elements, scale-is, scale_elements, clear-is, clear_elements, lift_is, lift_elements, exchange_is, exchange_elements}

module _ (f m : ℕ) where
  abbrev F : Ops
  F = field_of f

  L : Field (field_of f)
  L = field_of_lem f

  abbrev w : ℕ
  w = m + 1

  abbrev El : List ℕ → Type 0
  El = Elements f m (m + 1)

  small : (t : List ℕ) → El t → Small F (at w t)
  unfolding at
  small t E r c = E.below.at _

  -- ---- one column: its pivot was found in row k

  module _ (T : Table) (i : ℕ) (im : suc i ≤ m) where
    abbrev Shaped : ℕ → List ℕ → Type 0
    Shaped n t = C.Shape F L m w T own n n (at w t)

    abbrev Cleared : ℕ → List ℕ → Type 0
    Cleared s t = C.Cleared F L m w T own i i s (at w t)

    here : {r : ℕ} → 1 ≤ r → r ≤ m → In m w r (suc i)
    here a b = (a, b, omega arith, omega arith)

    record Under (k : ℕ) (t : List ℕ) : Type 0 where
      elements : El t
      cleared : Cleared (suc i + k) t

    cleared_below : (t : List ℕ) → Under 0 t → Under (m - suc i) (clear_below f m (suc i) t)
    unfolding clear_below
    cleared_below t h =
        run_holds Under (λ k. clear f w (suc i) (suc i + 1 + k)) (m - suc i)
        (λ k l s u.
        let e : suc i + 1 + k ≡ suc (suc i + k) = omega arith in
        let g : suc i + suc k ≡ suc (suc i + k) = omega arith in
        let P : In m w (suc i) (suc i) = here (omega arith) im in
        let Q : In m w (suc (suc i + k)) (suc i) = here (omega arith) (omega arith) in
        record {
          elements = rw e (clear_elements f m w s u.elements P Q);
          cleared =
              rw (e, g)
              (C.cleared_next F L m w im (omega arith) (omega arith) (omega arith)
              (small _ (clear_elements f m w s u.elements P Q)) (clear-is f m w s u.elements P Q) u.cleared);
        })
        t h

    column-taken : (k : ℕ) (t : List ℕ) → El t → Shaped i t → suc i ≤ k → k ≤ m → at w t k (suc i) ≢ 0
        → El (column f m (suc i) k t) × Shaped (suc i) (column f m (suc i) k t)
    unfolding column
    column-taken k t E h low high n =
        let P : In m w (suc i) (suc i) = here (omega arith) im in
        let a : List ℕ = exchange w (suc i) k (suc i) t in
        let Q : In m w k (suc i) = here (omega arith) high in
        let X = exchange_is f m w t E P Q in
        let Ea : El a = exchange_elements f m w t E P Q in
        let shape : Shaped i a =
        C.shape_work F L m w im (omega arith) h (small a Ea)
        (exchange_work F L m w (suc i) (suc i) (omega arith) (suc i) k (omega arith) im low high (ech_zeros F L m w own (at w t) h.form) X) in
        let b : List ℕ = scale f w (suc i) a in
        let Eb : El b = scale_elements f m w a Ea P in
        let first : Cleared (suc i) b =
        C.cleared_start F L m w im (omega arith) shape (λ z. n (sym (X.up (suc i) (omega arith) (omega arith)) ∙ z)) (small b Eb) (scale-is f m w a Ea P) in
        let z : suc i ≡ suc i + 0 = omega arith in
        let all = cleared_below b (record { elements = Eb; cleared = subst (λ (s : ℕ). Cleared s b) z first }) in
        let e : suc i + (m - suc i) ≡ m = omega arith in
        (all.elements, C.cleared_taken F L m w im (omega arith) refl (subst (λ (s : ℕ). Cleared s (clear_below f m (suc i) b)) e all.cleared))

  -- ---- all columns

  module _ (T : Table) where
    -- every pivot is taken, or the elimination has stopped where it had to
    abbrev Ends : Worked → Type 0
    Ends (going t) = El t × C.Shape F L m w T own m m (at w t)
    Ends (halted j) = IsStopped F m T j

    ends : (left i j : ℕ) (t : List ℕ) → j ≡ suc i → i + left ≡ m → El t → C.Shape F L m w T own i i (at w t) → Ends (eliminate f m left j t)
    ends zero i j t e g E h =
        rw (eliminate-end f m j t) (E, let d : i ≡ m = omega arith in subst (λ (n : ℕ). C.Shape F L m w T own n n (at w t)) d h)
    ends (suc left) i j t e g E h =
        rw e (turn (λ u Eu hu. ends left (suc i) (suc i + 1) u (omega arith) (omega arith) Eu hu) (seek w (suc i) t (m + 1 - suc i) (suc i)) refl)
      where
        turn : ((u : List ℕ) → El u → C.Shape F L m w T own (suc i) (suc i) (at w u) → Ends (eliminate f m left (suc i + 1) u))
            → (k : ℕ) → seek w (suc i) t (m + 1 - suc i) (suc i) ≡ k → Ends (eliminate f m (suc left) (suc i) t)
        turn next k s =
            let M = rw s at (met w (suc i) t (m + 1 - suc i) (suc i)) in
            elim (dec_lt m k) [
              | yes l ↦
                  rw (eliminate_stop f m {left = left} (suc i) t refl s l)
                  (stopped-at F L m (omega arith)
                  (record { shape = h; none = λ z r a b. M.passed r a (omega arith) })
                  (M.passed (suc i) (omega arith) (omega arith)))
              | no l ↦
                  rw (eliminate_on f m {left = left} (suc i) t refl s (omega arith))
                  (let c = column-taken T i (omega arith) k t E h M.low (omega arith) (M.pivot (omega arith)) in
                  next (column f m (suc i) k t) c.0 c.1)
            ]

  -- ---- back substitution

  abbrev bytes : List ℕ → ℕ → ℕ
  bytes x c = get_or x (c - 1) 0

  found : (X : ℕ → ℕ) (n : ℕ) (t x : List ℕ) → n ≤ m → El t → length x ≡ m → A.Opening F own m w X n (at w t) (bytes x)
      → (length (unknowns f m n t x) ≡ m) × ((c : ℕ) → 1 ≤ c → c ≤ m → bytes (unknowns f m n t x) c ≡ X c)
  found X zero t x l E lx O = rw (unknowns-end f m t x) (lx, λ c a b. O.known c a b)
  found X (suc n) t x l E lx O =
      let v : ℕ = at w t (suc n) w in
      let P : In m w (suc n) (suc n) = (omega arith, l, omega arith, omega arith) in
      let u : List ℕ = lift f 1 w (suc n) (suc n) v t in
      rw (unknowns_on f m {n = suc n} {left = n} t x {v = v} refl refl)
      (found X n u (set x n v) (omega arith) (lift_elements f m w t E P v) (length-set x n v ∙ lx)
      (A.opening-next F own m w (record { before = λ i a b. (a, omega arith); apart = λ i k a b c e. omega arith }) X n l
      (lift_is f m w t E P v) refl
      (rw (sub-one (suc n)) (get_or-set_same x n v 0 (omega arith)))
      (λ i a b. get_or-set_other x n (i - 1) v 0 (λ e. omega arith))
      O))

  -- ---- the answer

  module _ (values x : List ℕ) (E : El values) (lx : length x ≡ m) where
    abbrev T₀ : Table
    T₀ = at w values

    concluded : (c : Worked) → Ends T₀ c
        → Means F m T₀ (conclude f m x c).answer (conclude f m x c).solution × Left m (conclude f m x c).answer (conclude f m x c).solution
    unfolding conclude
    concluded (going t) h =
        let X : ℕ → ℕ = A.opened F own (at w t) m (λ r. at w t r w) in
        let d = found X m t x (le_refl m) h.0 lx (A.opening_start F own m w (at w t) (bytes x)) in
        (solved-with F L m (small values E) h.1 d.1, d.0)
    concluded (halted j) h = (h, refl)

    pub sound : Means F m (at w values) (solves f m values x).answer (solves f m values x).solution
        × Left m (solves f m values x).answer (solves f m values x).solution
    unfolding solves
    sound =
        concluded (eliminate f m m 1 values)
        (ends T₀ m 0 1 values refl (omega arith) E (C.shape_start F L m w T₀ own (small values E)))
