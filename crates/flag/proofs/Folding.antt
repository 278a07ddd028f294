-- The folds of the flag one by one, two in F16 and three in the other field, and how few draws they take.
-- Assumes nothing.
use mathlib.Core.Path.{◌≡◌, refl}
use mathlib.Core.Bool.{Bool, true, false}
use Prim.Native.Nat.{ℕ, ◌+◌, ◌*◌, ◌≤◌}
use mathlib.Core.List.{List}
use native.Mathlib.Omega.{arith}
use native.Mathlib.Nat.{mul-le-mul}
use lib.Dec.{eqb}
use lib.ListN.{drop}
use lib.Seq.{drop-drop}
use Rattle.field.specs.Field.{pick, field_of, bits}
use Rattle.sharing.specs.Run.{run}
use Rattle.sharing.proofs.Pairs.{pairs_small}
use Rattle.flag.specs.Flag.{folds, fold_draws, flag_draws, fold_turn, fold}

pub folds-two : (f : ℕ) → eqb f 16 ≡ true → folds f ≡ 2
unfolding folds
folds-two f e = rw e refl

pub folds-three : (f : ℕ) → eqb f 16 ≡ false → folds f ≡ 3
unfolding folds
folds-three f e = rw e refl

pub folds_few : (f : ℕ) → folds f ≤ 3
unfolding folds
folds_few f = few (eqb f 16)
  where
    few : (t : Bool) → pick {A = ℕ} t 2 3 ≤ 3
    few true = omega arith
    few false = omega arith

-- at most twelve draws a fold
pub fold_few : (n : ℕ) → n ≤ 4 → fold_draws n ≤ 12
unfolding fold_draws
fold_few n h = omega (arith, pairs_small n h)

pub flag_few : (f n : ℕ) → n ≤ 4 → flag_draws f n ≤ 36
flag_few f n h = mul-le-mul {n₁ = folds f} {m₁ = fold_draws n} {n₂ = 3} {m₂ = 12} (folds_few f) (fold_few n h)

pub fold-two : (f n : ℕ) (ds s : List ℕ) → eqb f 16 ≡ true
    → fold (field_of f) 1 (drop (fold_draws n) ds) (fold (field_of f) 2 ds s) ≡ run (fold_turn f ds n) (folds f) s
unfolding bits run
fold-two f n ds s e =
    let none : 0 * fold_draws n ≡ 0 = omega arith in
    let one : 1 * fold_draws n ≡ fold_draws n = omega arith in
    rw (folds-two f e, none, one, e) refl

pub fold-three : (f n : ℕ) (ds s : List ℕ) → eqb f 16 ≡ false
    → fold (field_of f) 1 (drop (fold_draws n) (drop (fold_draws n) ds)) (fold (field_of f) 2 (drop (fold_draws n) ds) (fold (field_of f) 4 ds s)) ≡ run (fold_turn f ds n) (folds f) s
unfolding bits run
fold-three f n ds s e =
    let none : 0 * fold_draws n ≡ 0 = omega arith in
    let one : 1 * fold_draws n ≡ fold_draws n = omega arith in
    let two : 2 * fold_draws n ≡ fold_draws n + fold_draws n = omega arith in
    rw (folds-three f e, none, one, two, drop-drop (fold_draws n) (fold_draws n) ds, e) refl
