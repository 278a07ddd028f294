-- What the steps of a column do to the shape of a table: Mix finds a pivot if there is one, Scale makes it 1, and Clear leaves 0 below it.
-- Any other way of bringing a pivot to its place serves as well, if it ends in `Sought m`.
-- Assumes nothing.
use mathlib.Core.Path.{◌≡◌, refl, sym, ap, ◌∙◌}
use mathlib.Core.Logic.{◌≢◌}
use mathlib.Core.Bool.{Bool}
use Prim.Native.Nat.{ℕ, zero, suc, ◌<◌, ◌≤◌}
use native.Mathlib.Nat.{mod-eq_of_lt}
use native.Mathlib.Omega.{arith}
use native.Mathlib.Decide.{ℕ_discrete}
use borrow.Author.Tests.{eq-eqb, ne_eqb}
use Rattle.field.specs.Field.{Ops, Field, inv, pick}
use Rattle.field.proofs.Inverses.{mul-inv}
use Rattle.flag.specs.Flag.{flag_of}
use Rattle.algebra.specs.Linear.{Table}
use Rattle.algebra.specs.Steps.{Mixes, Scales, Clears}
use Rattle.algebra.proofs.Arithmetic.{ring, mul_comm, mul-one, neg-mul, add-neg}
use Rattle.algebra.proofs.Outcome.{adds, combines, Small}
use Rattle.algebra.proofs.Rows.{Keep, Work, add_work, scale_work}
use Rattle.algebra.proofs.Opened.{Pivots}
use Rattle.algebra.proofs.Echelon.{Below, Echelon, start, pivot, pass, ech_zeros, ech_pivot, ech_rises, ech_ext, Column, chosen, passed, columns}

pub flag_yes : {v : ℕ} → v ≡ 0 → flag_of v ≡ 1
unfolding flag_of
flag_yes {v} e = ap (λ (b : Bool). pick {A = ℕ} b 1 0) (eq-eqb v 0 e)

pub flag_no : {v : ℕ} → v ≢ 0 → flag_of v ≡ 0
unfolding flag_of
flag_no {v} n = ap (λ (b : Bool). pick {A = ℕ} b 1 0) (ne_eqb v 0 n)

module _ (F : Ops) (L : Field F) (m w : ℕ) where
  open F use {q, add as ◌⊕◌, mul as ◌⊙◌, neg}

  infixl 60 ◌⊕◌
  infixl 70 ◌⊙◌
  -- U has T's relations between columns, and its first j columns are in echelon form with k pivots
  pub record Shape (T : Table) (p : ℕ → ℕ) (k j : ℕ) (U : Table) : Type 0 where
    pub keep : Keep F L m w T U
    pub back : Keep F L m w U T
    pub form : Echelon F L m w p U k j
    pub small : Small F U

  pub shape_start : (T : Table) (p : ℕ → ℕ) → Small F T → Shape T p 0 0 T
  shape_start T p s = record { keep = λ n l v h. h; back = λ n l v h. h; form = start; small = s }

  module _ {T U : Table} {p : ℕ → ℕ} where
    -- only the places of the k pivots matter, so that more can be listed
    pub shape_ext : {p' : ℕ → ℕ} {k j : ℕ} → ((i : ℕ) → 1 ≤ i → i ≤ k → p' i ≡ p i) → Shape T p k j U → Shape T p' k j U
    shape_ext e h =
        record { keep = h.keep; back = h.back; form = ech_ext F L m w e (λ r c _ _ _ _. refl) h.form; small = h.small }

    -- a column that is 0 in the rows without a pivot is passed over
    pub shape_pass : {k j : ℕ} → Below F L m w (suc k) (suc j) U → Shape T p k j U → Shape T p k (suc j) U
    shape_pass z h = record { keep = h.keep; back = h.back; form = pass h.form z; small = h.small }

    -- no row is left, and every later column is passed over
    pub shape_rest : {j : ℕ} (C : ℕ) → j ≤ C → Shape T p m j U → Shape T p m C U
    shape_rest {j} zero l h = let e : j ≡ 0 = omega arith in rw e at h
    shape_rest {j} (suc C) l h = elim (ℕ_discrete j (suc C)) [
      | yes e ↦ rw e at h
      | no e ↦ shape_pass (λ r a b. absurd (omega arith)) (shape_rest C (omega arith) h)
    ]

    -- a column of T has a pivot, or combines
    pub shape_column : {k j : ℕ} → j ≤ w → Shape T p k j U → (c : ℕ) → 1 ≤ c → c ≤ j → Column F m T p k c
    shape_column l h zero a b = absurd (omega arith)
    shape_column l h (suc c) a b = elim (columns F L m w p U h.small h.form (suc c) a b) [
      | chosen i x y e apart ↦ chosen i x y e (λ v g. apart v (combines F m U refl (h.keep c (omega arith) v (adds F m T refl g))))
      | passed out v g ↦ passed out v (combines F m T refl (h.back c (omega arith) v (adds F m U refl g)))
    ]

    pub shape_pivots : {k j : ℕ} → j < w → Shape T p k j U → Pivots F p k w
    shape_pivots l h =
        record {
          before = λ i a b. let g = ech_pivot F L m w p U h.form i a b in omega arith;
          apart = λ i s a b c e. let g = ech_rises F L m w p U h.form i s a b c in omega arith;
        }

  -- the pivot's place stays 0 only if both entries are
  flag_mixed : {a b : ℕ} → a < q → b < q → a ⊕ flag_of a ⊙ b ≡ 0 → (a ≡ 0) × (b ≡ 0)
  flag_mixed {a} {b} la lb h = elim (ℕ_discrete a 0) [
    | yes e ↦ (e, sym (mod-eq_of_lt lb) ∙ (simp ring at (rw (flag_yes e, e) at h)))
    | no n ↦ absurd (n (sym (mod-eq_of_lt la) ∙ (simp ring at (rw (flag_no n) at h))))
  ]

  -- the pivot of row k+1 is sought in column j+1
  module _ (T : Table) (p : ℕ → ℕ) (k j : ℕ) where
    -- Mix has met the rows k+1 to s: if the pivot's place is 0, the column is 0 in all of them
    pub record Sought (s : ℕ) (U : Table) : Type 0 where
      pub shape : Shape T p k j U
      pub none : U (suc k) (suc j) ≡ 0 → (r : ℕ) → suc k ≤ r → r ≤ s → U r (suc j) ≡ 0

    -- the pivot is 1, and Clear has left 0 in rows k+2 to s
    pub record Cleared (s : ℕ) (U : Table) : Type 0 where
      pub shape : Shape T p k j U
      pub unit : U (suc k) (suc j) ≡ 1
      pub below : (r : ℕ) → suc k < r → r ≤ s → U r (suc j) ≡ 0

  module _ {T : Table} {p : ℕ → ℕ} {k j : ℕ} (km : suc k ≤ m) (jw : suc j ≤ w) where
    pub shape_work : {U U' : Table} → Shape T p k j U → Small F U' → Work F L m w (suc j) U U' → Shape T p k j U'
    shape_work h s x =
        record {
          keep = λ n l v g. x.keep n l v (h.keep n l v g);
          back = λ n l v g. h.back n l v (x.back n l v g);
          form = ech_ext F L m w (λ i a l. refl) (λ r c a b d l. x.low r c (omega arith) (omega arith)) h.form;
          small = s;
        }

    pub sought_start : {U : Table} → Shape T p k j U → Sought T p k j (suc k) U
    sought_start h = record { shape = h; none = λ e r a b. let g : r ≡ suc k = omega arith in rw g e }

    pub sought-next : {s : ℕ} {U U' : Table} → suc k ≤ s → s < m → Small F U' → Mixes m w F (suc k) (suc j) (suc s) U U' → Sought T p k j s U
        → Sought T p k j (suc s) U'
    sought-next {s} {U} {U'} a b small M h =
        record {
          shape =
              shape_work h.shape small
              (add_work F L m w (suc k) (suc j) h.shape.small (ech_zeros F L m w p U h.shape.form) (omega arith) (suc k) (omega arith) km
              (suc s) _ (omega arith) (omega arith) (omega arith) M);
          none = λ e r x y.
              let f = flag_mixed (h.shape.small (suc k) (suc j)) (h.shape.small (suc s) (suc j)) (sym (M.new (suc j) (omega arith) jw) ∙ e) in
              elim (ℕ_discrete r (suc k)) [
                | yes g ↦ rw g e
                | no g ↦
                    M.kept r (suc j) (omega arith) (λ i. absurd (g i))
                    ∙ elim (ℕ_discrete r (suc s)) [ yes i ↦ rw i f.1 | no i ↦ h.none f.0 r x (omega arith) ]
              ];
        }

    -- the column has no pivot, and is passed over
    pub sought_pass : {U : Table} → Sought T p k j m U → U (suc k) (suc j) ≡ 0 → Shape T p k (suc j) U
    sought_pass h e = shape_pass (h.none e) h.shape

    pub cleared_start : {U U' : Table} → Shape T p k j U → U (suc k) (suc j) ≢ 0 → Small F U' → Scales m w F (suc k) (suc j) U U'
        → Cleared T p k j (suc k) U'
    cleared_start {U} {U'} h n small S =
        let x : ℕ = U (suc k) (suc j) in
        let one : x ⊙ inv F x ≡ 1 = mul-inv F L x (λ e. n (sym (mod-eq_of_lt (h.small (suc k) (suc j))) ∙ e)) in
        record {
          shape =
              shape_work h small
              (scale_work F L m w (suc k) (suc j) h.small (ech_zeros F L m w p U h.form) (omega arith) (suc k) (omega arith) km (inv F x) x one S);
          unit = S.new (suc j) (omega arith) jw ∙ mul_comm F L _ _ ∙ one;
          below = λ r a b. absurd (omega arith);
        }

    pub cleared_next : {s : ℕ} {U U' : Table} → suc k ≤ s → s < m → Small F U' → Clears m w F (suc k) (suc j) (suc s) U U' → Cleared T p k j s U
        → Cleared T p k j (suc s) U'
    cleared_next {s} {U} {U'} a b small C h =
        record {
          shape =
              shape_work h.shape small
              (add_work F L m w (suc k) (suc j) h.shape.small (ech_zeros F L m w p U h.shape.form) (omega arith) (suc s) (omega arith)
              (omega arith) (suc k) (neg (U (suc s) (suc j))) (omega arith) km (omega arith)
              (record { new = λ c x y. C.new c x y ∙ ap (◌⊕◌ (U (suc s) c)) (sym (neg-mul F L _ _)); kept = C.kept }));
          unit = C.kept (suc k) (suc j) (omega arith) (λ e. absurd (let z : ⊥ = omega arith in z)) ∙ h.unit;
          below = λ r x y. elim (ℕ_discrete r (suc s)) [
            | yes e ↦ rw e (C.new (suc j) (omega arith) jw ∙ rw (h.unit, mul-one F L, mod-eq_of_lt (h.shape.small (suc s) (suc j))) (add-neg F L _))
            | no e ↦ C.kept r (suc j) (omega arith) (λ i. absurd (e i)) ∙ h.below r x (omega arith)
          ];
        }

    -- the pivot is taken
    pub cleared_taken : {U : Table} → p (suc k) ≡ suc j → Cleared T p k j m U → Shape T p (suc k) (suc j) U
    cleared_taken e h =
        let s = h.shape in
        record { keep = s.keep; back = s.back; form = pivot s.form km e h.unit (λ r a b. h.below r (omega arith) b); small = s.small }
