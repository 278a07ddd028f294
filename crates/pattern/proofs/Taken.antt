-- The draws before a place, in closed form: those of the columns that are done, and those beyond them. They are never more than the whole solve
-- wants, and the steps never more than 2·rows a column and 2·rows beside.
-- Assumes nothing.
use mathlib.Core.Bool.{Bool, true, false}
use mathlib.Core.List.{List, [], ◌∷◌, ◌++◌}
use mathlib.Core.Path.{◌≡◌, refl, ap, ◌∙◌}
use Prim.Native.Nat.{ℕ, zero, suc, ◌≤◌, ◌+◌, ◌-◌, ◌*◌}
use native.Mathlib.Omega.{arith}
use native.Mathlib.Nat.{suc-mul, add-mul}
use lib.ListN.{length, drop, length-drop}
use Rattle.field.specs.Field.{pick}
use Rattle.table.specs.Costs.{mix_cost, check_cost, scale_cost, scale_nonzero, clear_cost, open_cost}
use Rattle.course.specs.declared.Step.{Step}
use Rattle.course.specs.declared.Step.TheVariants.{Mix, Check, Scale, Clear, Open, Lift}
use Rattle.course.specs.StepList.{each, cost_in, sum_over}
use Rattle.course.proofs.Sums.{sum-append}
use Rattle.course.proofs.Closed.{each-sum}
use Rattle.pattern.specs.declared.WideOrder.{WideOrder}
use Rattle.pattern.specs.declared.WidePlace.{WidePlace}
use Rattle.pattern.specs.declared.WidePlace.TheVariants.{At, Short, Done}
use Rattle.pattern.specs.Pivots.{before, row_of, last, has, ascends}
use Rattle.pattern.specs.PatternList.{cost_of, mask_cost, nonzero_cost, sought, taken, visit, visits, lifted, openings, before_step, steps_before, taken_at, every_column}
use Rattle.pattern.specs.Code.Columns.{from, mixing, clearing, column_cost, columns_cost, full_cost, step_done, done_columns, step_beyond, beyond, step_scales, scales_before}
use Rattle.pattern.proofs.Ascending.{before-all, before-next, before_none_one, last_high}
use Rattle.pattern.proofs.Standing.{Stood}
use Rattle.pattern.proofs.Before.{row_of_lem, some_pivot, next_row}

less_one : (k x : ℕ) → 1 ≤ k → (k - 1) * x + x ≡ k * x
less_one zero x a = absurd (let n : ⊥ = omega arith in n)
less_one (suc k) x a = let e : suc k - 1 ≡ k = omega arith in rw e (omega (arith, suc-mul k x))

module _ (o : WideOrder) where
  abbrev mask : List Step → ℕ
  mask l = sum_over (mask_cost o) l

  abbrev nonzero : List Step → ℕ
  nonzero l = sum_over (nonzero_cost o) l

  -- ---- mask draws

  mixes_sum : (j a n : ℕ) → mask (each (Mix j) a n) ≡ mixing o n j
  unfolding cost_of cost_in mixing
  mixes_sum j a n = each-sum (mask_cost o) (Mix j) (mix_cost o.field o.shares (from o j)) (λ k. refl) n a

  clears_sum : (j a n : ℕ) → mask (each (Clear j) a n) ≡ clearing o n j
  unfolding cost_of cost_in clearing
  clears_sum j a n = each-sum (mask_cost o) (Clear j) (clear_cost o.shares (from o j)) (λ k. refl) n a

  sought-sum : (r j : ℕ) → mask (sought o.rows r j) ≡ mixing o (o.rows - r) j + check_cost o.field o.shares
  unfolding sought sum_over cost_of cost_in
  sought-sum r j =
      omega (arith, sum-append (mask_cost o) (each (Mix j) (r + 1) (o.rows - r)) (Check j ∷ []), mixes_sum j (r + 1) (o.rows - r))

  taken-sum : (r j : ℕ) → mask (taken o.rows r j) ≡ scale_cost o.shares (from o j) + clearing o (o.rows - r) j
  unfolding taken sum_over cost_of cost_in
  taken-sum r j = omega (arith, clears_sum j (r + 1) (o.rows - r))

  visit-sum : (ps : List ℕ) (j : ℕ) → mask (visit o.rows ps j) ≡ column_cost o (row_of ps j) j (has ps j)
  unfolding visit column_cost sum_over
  visit-sum ps j = by (has ps j)
    where
      by : (t : Bool) → mask (sought o.rows (row_of ps j) j ++ pick t (taken o.rows (row_of ps j) j) []) ≡ mixing o (o.rows - row_of ps j) j + check_cost o.field o.shares + pick t (scale_cost o.shares (from o j) + clearing o (o.rows - row_of ps j) j) 0
      by true = omega (arith, sum-append (mask_cost o) (sought o.rows (row_of ps j) j) (taken o.rows (row_of ps j) j), sought-sum (row_of ps j) j, taken-sum (row_of ps j) j)
      by false = omega (arith, sum-append (mask_cost o) (sought o.rows (row_of ps j) j) [], sought-sum (row_of ps j) j)

  visits-sum : (ps : List ℕ) (n : ℕ) → mask (visits o.rows ps n) ≡ columns_cost o ps n
  unfolding visits columns_cost sum_over
  visits-sum ps zero = refl
  visits-sum ps (suc n) =
      omega (arith, sum-append (mask_cost o) (visits o.rows ps n) (visit o.rows ps (suc n)), visits-sum ps n, visit-sum ps (suc n))

  lifted-sum : (ps : List ℕ) → mask (lifted ps) ≡ length ps * open_cost o.shares
  unfolding lifted sum_over cost_of cost_in
  lifted-sum [] = omega arith
  lifted-sum (p ∷ ps) =
      omega (arith, sum-append (mask_cost o) (lifted ps) (Open p ∷ Lift p ∷ []), lifted-sum ps, suc-mul (length ps) (open_cost o.shares))

  openings-sum : (ps : List ℕ) → mask (openings ps) ≡ length ps * open_cost o.shares
  unfolding openings sum_over cost_of cost_in
  openings-sum [] = omega arith
  openings-sum (p ∷ ps) =
      omega (arith, sum-append (mask_cost o) (lifted ps) (Open p ∷ []), lifted-sum ps, suc-mul (length ps) (open_cost o.shares))

  pub full-sum : (n : ℕ) → mask (every_column o.rows n) ≡ full_cost o n
  unfolding every_column full_cost column_cost sum_over
  full-sum zero = refl
  full-sum (suc n) =
      omega (arith, sum-append (mask_cost o) (every_column o.rows n) (sought o.rows 1 (suc n) ++ taken o.rows 1 (suc n)), sum-append (mask_cost o) (sought o.rows 1 (suc n)) (taken o.rows 1 (suc n)), full-sum n, sought-sum 1 (suc n), taken-sum 1 (suc n))

  some_clears : (j a n : ℕ) → mask (Scale j ∷ each (Clear j) a n) ≡ scale_cost o.shares (from o j) + clearing o n j
  unfolding sum_over cost_of cost_in
  some_clears j a n = omega (arith, clears_sum j a n)

  -- so many pivots have been opened when column j is next
  opened-sum : (ps : List ℕ) (j : ℕ) → length ps ≡ o.rows → mask (lifted (drop (row_of ps j) ps)) ≡ (o.rows - row_of ps j) * open_cost o.shares
  opened-sum ps j e = lifted-sum (drop (row_of ps j) ps) ∙ rw (length-drop (row_of ps j) ps, e)

  -- and when its Lift is
  lift-sum : (ps : List ℕ) (j : ℕ) → length ps ≡ o.rows
      → mask (lifted (drop (row_of ps j) ps) ++ (Open j ∷ [])) ≡ (o.rows - row_of ps j + 1) * open_cost o.shares
  unfolding sum_over cost_of cost_in
  lift-sum ps j e =
      omega (arith, sum-append (mask_cost o) (lifted (drop (row_of ps j) ps)) (Open j ∷ []), opened-sum ps j e, add-mul (o.rows - row_of ps j) 1 (open_cost o.shares))

  pub taken-mask : (ps : List ℕ) (p : WidePlace) → Stood o ps p → (taken_at o ps p).mask ≡ columns_cost o ps (done_columns o ps p) + beyond o ps p
  unfolding taken_at steps_before before_step step_done step_beyond
  taken-mask ps (At (Mix j k)) s =
      let r = row_of ps j in
      omega (arith, sum-append (mask_cost o) (visits o.rows ps (j - 1)) (each (Mix j) (r + 1) (k - r - 1)), visits-sum ps (j - 1), mixes_sum j (r + 1) (k - r - 1))
  taken-mask ps (At (Check j)) s =
      let r = row_of ps j in
      omega (arith, sum-append (mask_cost o) (visits o.rows ps (j - 1)) (each (Mix j) (r + 1) (o.rows - r)), visits-sum ps (j - 1), mixes_sum j (r + 1) (o.rows - r))
  taken-mask ps (At (Scale j)) s =
      let r = row_of ps j in
      omega (arith, sum-append (mask_cost o) (visits o.rows ps (j - 1)) (sought o.rows r j), visits-sum ps (j - 1), sought-sum r j)
  taken-mask ps (At (Clear j k)) s =
      let r = row_of ps j in
      let l = Scale j ∷ each (Clear j) (r + 1) (k - r - 1) in
      omega (arith, sum-append (mask_cost o) (visits o.rows ps (j - 1)) (sought o.rows r j ++ l), sum-append (mask_cost o) (sought o.rows r j) l, visits-sum ps (j - 1), sought-sum r j, some_clears j (r + 1) (k - r - 1))
  taken-mask ps (At (Open j)) s =
      omega (arith, sum-append (mask_cost o) (visits o.rows ps (last ps)) (lifted (drop (row_of ps j) ps)), visits-sum ps (last ps), opened-sum ps j s.0)
  taken-mask ps (At (Lift j)) s =
      omega (arith, sum-append (mask_cost o) (visits o.rows ps (last ps)) (lifted (drop (row_of ps j) ps) ++ (Open j ∷ [])), visits-sum ps (last ps), lift-sum ps j s.0)
  taken-mask ps Short s = omega (arith, visits-sum ps o.columns)
  taken-mask ps Done s =
      omega (arith, sum-append (mask_cost o) (visits o.rows ps (last ps)) (openings ps), visits-sum ps (last ps), rw s at (openings-sum ps))

  -- ---- nonzero draws: n-1 a Scale

  each_none : (f : ℕ → Step) → ((k : ℕ) → nonzero_cost o (f k) ≡ 0) → (a n : ℕ) → nonzero (each f a n) ≡ 0
  each_none f h a n = omega (arith, each-sum (nonzero_cost o) f 0 h n a)

  sought_none : (r j : ℕ) → nonzero (sought o.rows r j) ≡ 0
  unfolding sought sum_over cost_of cost_in
  sought_none r j =
      omega (arith, sum-append (nonzero_cost o) (each (Mix j) (r + 1) (o.rows - r)) (Check j ∷ []), each_none (Mix j) (λ k. refl) (r + 1) (o.rows - r))

  some_scale : (j a n : ℕ) → nonzero (Scale j ∷ each (Clear j) a n) ≡ o.shares - 1
  unfolding sum_over cost_of cost_in scale_nonzero
  some_scale j a n = omega (arith, each_none (Clear j) (λ k. refl) a n)

  visit-scale : (ps : List ℕ) (j : ℕ) → nonzero (visit o.rows ps j) ≡ pick (has ps j) 1 0 * (o.shares - 1)
  unfolding visit taken sum_over
  visit-scale ps j = by (has ps j)
    where
      by : (t : Bool) → nonzero (sought o.rows (row_of ps j) j ++ pick t (Scale j ∷ each (Clear j) (row_of ps j + 1) (o.rows - row_of ps j)) []) ≡ pick t 1 0 * (o.shares - 1)
      by true = omega (arith, sum-append (nonzero_cost o) (sought o.rows (row_of ps j) j) (Scale j ∷ each (Clear j) (row_of ps j + 1) (o.rows - row_of ps j)), sought_none (row_of ps j) j, some_scale j (row_of ps j + 1) (o.rows - row_of ps j))
      by false = omega (arith, sum-append (nonzero_cost o) (sought o.rows (row_of ps j) j) [], sought_none (row_of ps j) j)

  visits_scales : (ps : List ℕ) → ascends 0 o.columns ps ≡ true → (n : ℕ) → nonzero (visits o.rows ps n) ≡ before ps (suc n) * (o.shares - 1)
  unfolding visits sum_over
  visits_scales ps h zero = rw (before_none_one o.columns ps h) (omega arith)
  visits_scales ps h (suc n) =
      omega (arith, sum-append (nonzero_cost o) (visits o.rows ps n) (visit o.rows ps (suc n)), visits_scales ps h n, visit-scale ps (suc n), add-mul (before ps (suc n)) (pick (has ps (suc n)) 1 0) (o.shares - 1), ap (λ (k : ℕ). k * (o.shares - 1)) (before-next o.columns 0 ps h (suc n) (omega arith)))

  lifted_none : (ps : List ℕ) → nonzero (lifted ps) ≡ 0
  unfolding lifted sum_over cost_of cost_in
  lifted_none [] = refl
  lifted_none (p ∷ ps) = omega (arith, sum-append (nonzero_cost o) (lifted ps) (Open p ∷ Lift p ∷ []), lifted_none ps)

  opens_none : (ps : List ℕ) (j : ℕ) → nonzero (lifted ps ++ (Open j ∷ [])) ≡ 0
  unfolding sum_over cost_of cost_in
  opens_none ps j = omega (arith, sum-append (nonzero_cost o) (lifted ps) (Open j ∷ []), lifted_none ps)

  openings_none : (ps : List ℕ) → nonzero (openings ps) ≡ 0
  unfolding openings sum_over
  openings_none [] = refl
  openings_none (p ∷ ps) = opens_none ps p

  no_mixes : (j a n : ℕ) → nonzero (each (Mix j) a n) ≡ 0
  unfolding cost_of cost_in
  no_mixes j a n = each_none (Mix j) (λ k. refl) a n

  module _ (ps : List ℕ) (h : ascends 0 o.columns ps ≡ true) where
    -- the columns up to one behind or at the last pivot have all Scales
    all_scales : (n : ℕ) → last ps ≤ n → nonzero (visits o.rows ps n) ≡ length ps * (o.shares - 1)
    all_scales n l = visits_scales ps h n ∙ rw (before-all o.columns 0 ps h (suc n) (omega arith))

    -- those before column j, whose row is row r
    few_scales : (j r : ℕ) → 1 ≤ j → row_of ps j ≡ r → nonzero (visits o.rows ps (j - 1)) ≡ (r - 1) * (o.shares - 1)
    unfolding row_of
    few_scales j r a e =
        let y : suc (j - 1) ≡ j = omega arith in
        let z : before ps j ≡ r - 1 = omega arith in
        visits_scales ps h (j - 1) ∙ rw (y, z)

    pub taken-nonzero : (p : WidePlace) → Stood o ps p → (taken_at o ps p).nonzero ≡ scales_before ps p * (o.shares - 1)
    unfolding taken_at steps_before before_step step_scales
    taken-nonzero (At (Mix j k)) s =
        let r = row_of ps j in
        let e : length ps + 1 - 1 ≡ length ps = omega arith in
        omega (arith, sum-append (nonzero_cost o) (visits o.rows ps (j - 1)) (each (Mix j) (r + 1) (k - r - 1)), rw e at (few_scales j (length ps + 1) (omega arith) (next_row o.rows o.columns ps h j s.0)), no_mixes j (r + 1) (k - r - 1))
    taken-nonzero (At (Check j)) s =
        let r = row_of ps j in
        let e : length ps + 1 - 1 ≡ length ps = omega arith in
        omega (arith, sum-append (nonzero_cost o) (visits o.rows ps (j - 1)) (each (Mix j) (r + 1) (o.rows - r)), rw e at (few_scales j (length ps + 1) (omega arith) (next_row o.rows o.columns ps h j s.0)), no_mixes j (r + 1) (o.rows - r))
    taken-nonzero (At (Scale j)) s =
        omega (arith, sum-append (nonzero_cost o) (visits o.rows ps (j - 1)) (sought o.rows (row_of ps j) j), few_scales j (length ps) s.0 (row_of_lem o ps h s), sought_none (row_of ps j) j)
    taken-nonzero (At (Clear j k)) s =
        let r = row_of ps j in
        let l = Scale j ∷ each (Clear j) (r + 1) (k - r - 1) in
        omega (arith, sum-append (nonzero_cost o) (visits o.rows ps (j - 1)) (sought o.rows r j ++ l), sum-append (nonzero_cost o) (sought o.rows r j) l, few_scales j (length ps) s.0 (row_of_lem o ps h (s.0, s.1)), sought_none r j, some_scale j (r + 1) (k - r - 1), less_one (length ps) (o.shares - 1) (some_pivot o ps h (s.0, s.1)))
    taken-nonzero (At (Open j)) s =
        omega (arith, sum-append (nonzero_cost o) (visits o.rows ps (last ps)) (lifted (drop (row_of ps j) ps)), all_scales (last ps) (omega arith), lifted_none (drop (row_of ps j) ps))
    taken-nonzero (At (Lift j)) s =
        omega (arith, sum-append (nonzero_cost o) (visits o.rows ps (last ps)) (lifted (drop (row_of ps j) ps) ++ (Open j ∷ [])), all_scales (last ps) (omega arith), opens_none (drop (row_of ps j) ps) j)
    taken-nonzero Short s = all_scales o.columns (last_high o.columns ps h)
    taken-nonzero Done s =
        omega (arith, sum-append (nonzero_cost o) (visits o.rows ps (last ps)) (openings ps), all_scales (last ps) (omega arith), openings_none ps)
