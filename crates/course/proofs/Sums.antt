-- How long the step list is, how many nonzero draws it takes, and that no sum over it is large.
-- Assumes nothing.
use mathlib.Core.Bool.{true}
use mathlib.Core.List.{List, [], ◌∷◌, ◌++◌}
use mathlib.Core.Path.{◌≡◌, refl, ap}
use Prim.Native.Nat.{ℕ, zero, suc, ◌≤◌, ◌+◌, ◌-◌, ◌*◌}
use native.Mathlib.Omega.{arith}
use native.Mathlib.Nat.{suc-mul, mul-suc, mul-le-mul, mul-le-mul_right}
use lib.ListN.{length, length-append}
use Rattle.sharing.specs.Bounds.{most_rows, most_columns, most_steps, most_draws}
use Rattle.table.proofs.CostBounds.{mix_few, check_few, scale_few, clear_few, open_few}
use Rattle.table.specs.Layout.{columns_from}
use Rattle.table.specs.Costs.{scale_nonzero}
use Rattle.course.specs.declared.Step.{Step}
use Rattle.course.specs.declared.Step.TheVariants.{Mix, Check, Scale, Clear, Open, Lift}
use Rattle.course.specs.declared.Order.{Order}
use Rattle.course.specs.StepList.{Sizes, each, column, columns, openings, step_list, in_list, column_of, cost_of, cost_in, mask_cost, nonzero_cost, sum_over, full_mask, full_nonzero}
use Rattle.course.proofs.Within.{column_listed}
use Rattle.course.proofs.Members.{AllIn, all_in}

pub sum-append : (f : Step → ℕ) (a b : List Step) → sum_over f (a ++ b) ≡ sum_over f a + sum_over f b
unfolding sum_over
sum-append f [] b = omega arith
sum-append f (s ∷ a) b = omega (arith, sum-append f a b)

-- no step takes many
pub cost_few : (f n w : ℕ) → n ≤ 4 → w ≤ most_columns → (s : Step) → 1 ≤ column_of s → (cost_in f n w s).mask ≤ most_draws
unfolding cost_in
cost_few f n w h g (Mix j k) a = mix_few f n (columns_from w j) h (omega arith)
cost_few f n w h g (Check j) a = check_few f n h
cost_few f n w h g (Scale j) a = scale_few n (columns_from w j) h (omega arith)
cost_few f n w h g (Clear j k) a = omega (arith, clear_few n (columns_from w j) h (omega arith))
cost_few f n w h g (Open j) a = omega (arith, open_few n h)
cost_few f n w h g (Lift j) a = omega arith

-- the length

pub each-length : (f : ℕ → Step) (a n : ℕ) → length (each f a n) ≡ n
unfolding each
each-length f a zero = refl
each-length f a (suc n) = ap suc (each-length f (a + 1) n)

column-length : (m j d : ℕ) → j + d ≡ m → length (column m j) ≡ d + d + 2
unfolding column
column-length m j d e =
    let x : m - j ≡ d = omega arith in
    rw (length-append (each (Mix j) (j + 1) (m - j)) (Check j ∷ Scale j ∷ each (Clear j) (j + 1) (m - j)), each-length (Mix j) (j + 1) (m - j), each-length (Clear j) (j + 1) (m - j), x) (omega arith)

columns-length : (m j n : ℕ) → j + n ≡ m + 1 → length (columns m j n) ≡ n * (n + 1)
unfolding columns
columns-length m j zero e = refl
columns-length m j (suc n) e =
    rw (length-append (column m j) (columns m (j + 1) n), column-length m j n (omega arith), columns-length m (j + 1) n (omega arith))
    (omega (arith, suc-mul n (suc n + 1), mul-suc n (n + 1)))

-- Open and Lift of each unknown, but for Lift(1)
pub openings-length : (n : ℕ) → length (openings n) ≡ n + n - 1
unfolding openings
openings-length zero = refl
openings-length (suc zero) = refl
openings-length (suc (suc n)) = omega (arith, openings-length (suc n))

-- m²+3m-1 steps
pub list_length : (m : ℕ) → length (step_list m) ≡ m * (m + 3) - 1
unfolding step_list
list_length zero =
    rw (length-append (columns 0 1 0) (openings 0), columns-length 0 1 0 (omega arith), openings-length 0)
list_length (suc n) =
    rw (length-append (columns (suc n) 1 (suc n)) (openings (suc n)), columns-length (suc n) 1 (suc n) (omega arith), openings-length (suc n))
    (omega arith)

pub list_small : (m : ℕ) → m ≤ most_rows → length (step_list m) ≤ most_steps
list_small m h =
    rw (list_length m) (omega (arith, mul-le-mul {n₁ = m} {m₁ = m + 3} {n₂ = most_rows} {m₂ = most_rows + 3} h (omega arith)))

-- the nonzero draws

module _ (o : Order) where
  pub each_none : (f : ℕ → Step) → ((k : ℕ) → nonzero_cost o (f k) ≡ 0) → (a n : ℕ) → sum_over (nonzero_cost o) (each f a n) ≡ 0
  unfolding each sum_over
  each_none f h a zero = refl
  each_none f h a (suc n) = omega (arith, h a, each_none f h (a + 1) n)

  openings_none : (n : ℕ) → sum_over (nonzero_cost o) (openings n) ≡ 0
  unfolding openings sum_over cost_of cost_in
  openings_none zero = refl
  openings_none (suc zero) = refl
  openings_none (suc (suc n)) = omega (arith, openings_none (suc n))

  column-nonzero : (m j : ℕ) → sum_over (nonzero_cost o) (column m j) ≡ o.shares - 1
  unfolding column sum_over cost_of cost_in scale_nonzero
  column-nonzero m j =
      rw (sum-append (nonzero_cost o) (each (Mix j) (j + 1) (m - j)) (Check j ∷ Scale j ∷ each (Clear j) (j + 1) (m - j)))
      (omega (arith, each_none (Mix j) (λ k. refl) (j + 1) (m - j), each_none (Clear j) (λ k. refl) (j + 1) (m - j)))

  pub columns-nonzero : (m j n : ℕ) → sum_over (nonzero_cost o) (columns m j n) ≡ n * (o.shares - 1)
  unfolding columns sum_over
  columns-nonzero m j zero = omega arith
  columns-nonzero m j (suc n) =
      omega (arith, sum-append (nonzero_cost o) (column m j) (columns m (j + 1) n), column-nonzero m j, columns-nonzero m (j + 1) n, suc-mul n (o.shares - 1))

  -- m(n-1) of them
  pub nonzero_count : full_nonzero o ≡ o.size * (o.shares - 1)
  unfolding step_list
  nonzero_count =
      omega (arith, sum-append (nonzero_cost o) (columns o.size 1 o.size) (openings o.size), columns-nonzero o.size 1 o.size, openings_none o.size)

  pub nonzero_small : Sizes o → full_nonzero o ≤ most_rows * 3
  nonzero_small z =
      omega (arith, nonzero_count, mul-le-mul {n₁ = o.size} {m₁ = o.shares - 1} {n₂ = most_rows} {m₂ = 3} z.most (omega arith))

  -- the mask draws

  pub cost_small : Sizes o → (s : Step) → in_list o.size s ≡ true → mask_cost o s ≤ most_draws
  unfolding cost_of
  cost_small z s h =
      let w = column_listed o.size s h in
      cost_few o.field o.shares (o.size + 1) z.four (omega (arith, z.most)) s w.0

  sum_small : Sizes o → (l : List Step) → AllIn o.size l → sum_over (mask_cost o) l ≤ length l * most_draws
  unfolding sum_over
  sum_small z [] h = omega arith
  sum_small z (s ∷ l) h = omega (arith, cost_small z s h.0, sum_small z l h.1, suc-mul (length l) most_draws)

  -- the most steps, each of the most draws
  pub mask_small : Sizes o → full_mask o ≤ most_steps * most_draws
  mask_small z =
      omega (arith, sum_small z (step_list o.size) (all_in o.size), mul-le-mul_right most_draws (list_small o.size z.most))
