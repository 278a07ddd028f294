-- A wide system over F16: x + 2y + z = 5, 2x + 4y + 3z = 7. Column 2 is twice column 1, so it is passed over and y is 0; x is 8 and z is 13.
-- Assumes nothing.
use mathlib.Core.Path.{◌≡◌, refl, sym, ap, ◌∙◌}
use mathlib.Core.List.{List, [], ◌∷◌}
use Prim.Native.Nat.{ℕ, ◌+◌, ◌-◌, ◌*◌, ◌<◌, ◌≤◌}
use native.Mathlib.Omega.{arith}
use native.Mathlib.Decide.{ℕ_discrete}
use lib.Dec.{lit<}
use lib.ListN.{get_or}
use Rattle.field.specs.Poly.{product, times, left}
use Rattle.field.specs.Field.{F16}
use Rattle.field.proofs.Fields.{field16}
use Rattle.sharing.specs.Lists.{Below}
use Rattle.sharing.proofs.Elements.{cons_below, none_below}
use Rattle.algebra.specs.Linear.{Table, combination, Combines, Apart}
use Rattle.algebra.specs.Wide.{pivot_at, Passed, found, IsPattern, WideMeans}
use Rattle.algebra.proofs.Arithmetic.{combination-zero, combination_lin}
use Rattle.algebra.proofs.Outcome.{adds, combines}
use Rattle.algebra.proofs.Wide.{found_by_lem}

values : List ℕ
values = 1 ∷ 2 ∷ 1 ∷ 5 ∷ 2 ∷ 4 ∷ 3 ∷ 7 ∷ []

pub system : Table
system r c = get_or values ((r - 1) * 4 + (c - 1)) 0

abbrev pattern : List ℕ
pattern = 1 ∷ 3 ∷ []

abbrev solution : List ℕ
solution = 8 ∷ 0 ∷ 13 ∷ []

-- what holds at 1 and 2 holds at each row
two : (P : ℕ → Type 0) → P 1 → P 2 → (r : ℕ) → 1 ≤ r → r ≤ 2 → P r
two P a b r k l = elim (ℕ_discrete r 2) [ yes e ↦ rw e b | no e ↦ let g : r ≡ 1 = omega arith in rw g a ]

three : (P : ℕ → Type 0) → P 1 → P 2 → P 3 → (c : ℕ) → 1 ≤ c → c ≤ 3 → P c
three P a b d c k l = elim (ℕ_discrete c 3) [ yes e ↦ rw e d | no e ↦ two P a b c k (omega arith) ]

elements : Below 16 values
unfolding values
elements =
    cons_below (lit< tt)
    (cons_below (lit< tt)
    (cons_below (lit< tt)
    (cons_below (lit< tt)
    (cons_below (lit< tt) (cons_below (lit< tt) (cons_below (lit< tt) (cons_below (lit< tt) (none_below (lit< tt)))))))))

first : Apart F16 2 system 1
unfolding system values
first v h =
    let e : ◌≡◌ {A = ℕ} 0 1 = sym (combination-zero F16 field16 (system 1) v) ∙ adds F16 2 system refl h 1 (omega arith) (omega arith) in omega arith

-- row 2 is twice row 1 in the columns before it, and not here
third : Apart F16 2 system 3
unfolding F16 product times left system values
third v h =
    let row : (r : ℕ) → 1 ≤ r → r ≤ 2 → combination F16 (system r) v 2 ≡ system r 3 = adds F16 2 system refl h in
    let e : ◌≡◌ {A = ℕ} 3 2 =
    sym (row 2 (omega arith) (omega arith))
    ∙ combination_lin F16 field16 2 2 0 (system 1) (system 1) (system 2) v
    (two (λ c. system 2 c ≡ F16.add (F16.mul 2 (system 1 c)) (F16.mul 0 (system 1 c))) refl refl)
    ∙ ap (λ (a : ℕ). F16.add (F16.mul 2 a) (F16.mul 0 a)) (row 1 (omega arith) (omega arith)) in
    omega arith

second : Combines F16 2 system 2 (λ c. 2)
unfolding F16 product times left system values combination
second = combines F16 2 system refl (two (λ r. combination F16 (system r) (λ c. 2) 1 ≡ system r 2) refl refl)

pub pattern_is : IsPattern F16 2 system 3 pattern
unfolding pivot_at
pattern_is =
    record {
      inside = two (λ i. (1 ≤ pivot_at pattern i) × (pivot_at pattern i ≤ 3)) (omega arith) (omega arith);
      rises = λ i k a b c. let e : i ≡ 1 = omega arith in let d : k ≡ 2 = omega arith in rw (e, d) (omega arith);
      apart = two (λ i. Apart F16 2 system (pivot_at pattern i)) first third;
      combines =
          three (λ c. Passed pattern c → (v : ℕ → ℕ) × Combines F16 2 system c v)
          (λ out. absurd (out 1 (omega arith) (omega arith) refl))
          (λ out. (λ c. 2, second))
          (λ out. absurd (out 2 (omega arith) (omega arith) refl));
    }

pub found_is : WideMeans F16 2 system 3 found pattern solution
unfolding F16 product times left system values combination pivot_at
found_is =
    found_by_lem F16 field16 2 3 (λ r c. elements.at ((r - 1) * 4 + (c - 1))) pattern_is refl
    (combines F16 2 system refl (two (λ r. combination F16 (system r) (λ c. get_or solution (c - 1) 0) 3 ≡ system r 4) refl refl))
    (three (λ c. Passed pattern c → get_or solution (c - 1) 0 ≡ 0)
    (λ out. absurd (out 1 (omega arith) (omega arith) refl))
    (λ out. refl)
    (λ out. absurd (out 2 (omega arith) (omega arith) refl)))
    (three (λ c. get_or solution (c - 1) 0 < 16) (omega arith) (omega arith) (omega arith))
