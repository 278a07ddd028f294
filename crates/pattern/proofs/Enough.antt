-- What the whole solve wants is always enough: no place of any pattern has taken more draws, as each column takes no more than if row 1 took its
-- pivot. And no place has more than 2·rows steps a column before it, and 2·rows beside.
-- Assumes nothing.
use mathlib.Core.Bool.{Bool, true, false}
use mathlib.Core.List.{List, [], ◌∷◌, ◌++◌}
use mathlib.Core.Path.{◌≡◌, refl, ◌∙◌}
use Prim.Native.Nat.{ℕ, zero, suc, ◌≤◌, ◌+◌, ◌-◌, ◌*◌}
use native.Mathlib.Omega.{arith}
use native.Mathlib.Nat.{suc-mul, add-mul, mul-le-mul_right}
use lib.ListN.{length, drop, length-append, length-drop}
use Rattle.field.specs.Field.{pick}
use Rattle.table.specs.Costs.{check_cost, scale_cost, open_cost}
use Rattle.course.specs.declared.Step.TheVariants.{Mix, Check, Scale, Clear, Open, Lift}
use Rattle.course.specs.StepList.{each}
use Rattle.course.proofs.Sums.{each-length}
use Rattle.pattern.specs.declared.WideOrder.{WideOrder}
use Rattle.pattern.specs.declared.WidePlace.{WidePlace}
use Rattle.pattern.specs.declared.WidePlace.TheVariants.{At, Short, Done}
use Rattle.pattern.specs.Pivots.{before, row_of, last, has, ascends}
use Rattle.pattern.specs.PatternList.{sought, taken, visit, visits, lifted, openings, before_step, steps_before, taken_at, wanted}
use Rattle.pattern.specs.Code.Columns.{from, mixing, clearing, column_cost, columns_cost, full_cost, step_done, done_columns, step_beyond, beyond, step_scales, scales_before}
use Rattle.pattern.proofs.Ascending.{last_high}
use Rattle.pattern.proofs.Standing.{Stood}
use Rattle.pattern.proofs.Before.{in_columns}
use Rattle.pattern.proofs.Taken.{full-sum, taken-mask, taken-nonzero}

module _ (o : WideOrder) where
  -- fewer steps take fewer draws
  mixing-less : (k l j : ℕ) → k ≤ l → mixing o k j ≤ mixing o l j
  unfolding mixing
  mixing-less k l j h = mul-le-mul_right _ h

  clearing-less : (k l j : ℕ) → k ≤ l → clearing o k j ≤ clearing o l j
  unfolding clearing
  clearing-less k l j h = mul-le-mul_right _ h

  -- a column on row r, pivot or not, takes no more than if row 1 took its pivot
  column-less : (r j : ℕ) (t : Bool) → 1 ≤ r → column_cost o r j t ≤ column_cost o 1 j true
  unfolding column_cost
  column-less r j true a = omega (arith, mixing-less (o.rows - r) (o.rows - 1) j (omega arith), clearing-less (o.rows - r) (o.rows - 1) j (omega arith))
  column-less r j false a = omega (arith, mixing-less (o.rows - r) (o.rows - 1) j (omega arith))

  row_some : (ps : List ℕ) (j : ℕ) → 1 ≤ row_of ps j
  unfolding row_of
  row_some ps j = omega arith

  pub columns-less : (ps : List ℕ) (n : ℕ) → columns_cost o ps n ≤ full_cost o n
  unfolding columns_cost full_cost
  columns-less ps zero = omega arith
  columns-less ps (suc n) = omega (arith, columns-less ps n, column-less (row_of ps (suc n)) (suc n) (has ps (suc n)) (row_some ps (suc n)))

  full_grows : (n d : ℕ) → full_cost o n ≤ full_cost o (n + d)
  unfolding full_cost
  full_grows n zero = let e : n + 0 ≡ n = omega arith in rw e (omega arith)
  full_grows n (suc d) = let e : n + suc d ≡ suc (n + d) = omega arith in rw e (omega (arith, full_grows n d))

  full-less : (n m : ℕ) → n ≤ m → full_cost o n ≤ full_cost o m
  full-less n m l = let e : n + (m - n) ≡ m = omega arith in rw e at (full_grows n (m - n))

  full-step : (j : ℕ) → 1 ≤ j → full_cost o j ≡ full_cost o (j - 1) + column_cost o 1 j true
  unfolding full_cost
  full-step zero a = absurd (let n : ⊥ = omega arith in n)
  full-step (suc j) a = let e : suc j - 1 ≡ j = omega arith in rw e

  -- the columns before j, and no more than column j would take if row 1 took it
  own-column : (ps : List ℕ) (j x : ℕ) → 1 ≤ j → j ≤ o.columns → x ≤ column_cost o 1 j true → columns_cost o ps (j - 1) + x ≤ full_cost o o.columns
  own-column ps j x a b l = omega (arith, columns-less ps (j - 1), full-step j a, full-less j o.columns b)

  opening-less : (k : ℕ) → k ≤ o.rows → k * open_cost o.shares ≤ o.rows * open_cost o.shares
  opening-less k h = mul-le-mul_right (open_cost o.shares) h

  module _ (some : 1 ≤ o.rows) (ps : List ℕ) (h : ascends 0 o.columns ps ≡ true) where
    own_most : (p : WidePlace) → Stood o ps p
        → columns_cost o ps (done_columns o ps p) + beyond o ps p ≤ o.rows * open_cost o.shares + full_cost o o.columns
    unfolding step_done step_beyond column_cost
    own_most (At (Mix j k)) s =
        let r = row_some ps j in
        omega (arith, own-column ps j (mixing o (k - row_of ps j - 1) j) (omega arith) s.1 (omega (arith, mixing-less (k - row_of ps j - 1) (o.rows - 1) j (omega (arith, s.3)))))
    own_most (At (Check j)) s =
        let r = row_some ps j in
        omega (arith, own-column ps j (mixing o (o.rows - row_of ps j) j) (omega arith) s.1 (omega (arith, mixing-less (o.rows - row_of ps j) (o.rows - 1) j (omega arith))))
    own_most (At (Scale j)) s =
        let r = row_some ps j in
        omega (arith, own-column ps j (mixing o (o.rows - row_of ps j) j + check_cost o.field o.shares) s.0 (in_columns o ps h s) (omega (arith, mixing-less (o.rows - row_of ps j) (o.rows - 1) j (omega arith))))
    own_most (At (Clear j k)) s =
        let r = row_some ps j in
        omega (arith, own-column ps j (mixing o (o.rows - row_of ps j) j + check_cost o.field o.shares + (scale_cost o.shares (from o j) + clearing o (k - row_of ps j - 1) j)) s.0 (in_columns o ps h (s.0, s.1)) (omega (arith, mixing-less (o.rows - row_of ps j) (o.rows - 1) j (omega arith), clearing-less (k - row_of ps j - 1) (o.rows - 1) j (omega (arith, s.3)))))
    own_most (At (Open j)) s =
        omega (arith, columns-less ps (last ps), full-less (last ps) o.columns (last_high o.columns ps h), opening-less (o.rows - row_of ps j) (omega arith))
    own_most (At (Lift j)) s =
        omega (arith, columns-less ps (last ps), full-less (last ps) o.columns (last_high o.columns ps h), opening-less (o.rows - row_of ps j + 1) (omega (arith, row_some ps j)))
    own_most Short s = omega (arith, columns-less ps o.columns)
    own_most Done s = omega (arith, columns-less ps (last ps), full-less (last ps) o.columns (last_high o.columns ps h))

    scales_few : (p : WidePlace) → scales_before ps p ≤ length ps
    unfolding step_scales
    scales_few (At (Mix j k)) = omega arith
    scales_few (At (Check j)) = omega arith
    scales_few (At (Scale j)) = omega arith
    scales_few (At (Clear j k)) = omega arith
    scales_few (At (Open j)) = omega arith
    scales_few (At (Lift j)) = omega arith
    scales_few Short = omega arith
    scales_few Done = omega arith

    -- the draws taken at any place are among those that the whole solve wants
    pub enough : length ps ≤ o.rows → (p : WidePlace) → Stood o ps p
        → ((taken_at o ps p).mask ≤ (wanted o).mask) × ((taken_at o ps p).nonzero ≤ (wanted o).nonzero)
    unfolding wanted
    enough few p s = (
      omega (arith, taken-mask o ps p s, own_most p s, full-sum o o.columns),
      rw (taken-nonzero o ps h p s) (mul-le-mul_right (o.shares - 1) (omega (arith, scales_few p))),
    )

-- ---- steps

module _ (o : WideOrder) (some : 1 ≤ o.rows) where
  abbrev M : ℕ
  M = o.rows

  sought-length : (r j : ℕ) → length (sought M r j) ≡ M - r + 1
  unfolding sought
  sought-length r j = length-append (each (Mix j) (r + 1) (M - r)) (Check j ∷ []) ∙ rw (each-length (Mix j) (r + 1) (M - r))

  visit-length : (ps : List ℕ) (j : ℕ) → length (visit M ps j) ≤ 2 * M
  unfolding visit taken row_of
  visit-length ps j = by (has ps j)
    where
      by : (t : Bool) → length (sought M (before ps j + 1) j ++ pick t (Scale j ∷ each (Clear j) (before ps j + 1 + 1) (M - (before ps j + 1))) []) ≤ 2 * M
      by true = omega (arith, length-append (sought M (before ps j + 1) j) (Scale j ∷ each (Clear j) (before ps j + 1 + 1) (M - (before ps j + 1))), sought-length (before ps j + 1) j, each-length (Clear j) (before ps j + 1 + 1) (M - (before ps j + 1)))
      by false = omega (arith, length-append (sought M (before ps j + 1) j) [], sought-length (before ps j + 1) j)

  visits-length : (ps : List ℕ) (n : ℕ) → length (visits M ps n) ≤ n * (2 * M)
  unfolding visits
  visits-length ps zero = omega arith
  visits-length ps (suc n) =
      omega (arith, length-append (visits M ps n) (visit M ps (suc n)), visits-length ps n, visit-length ps (suc n), suc-mul n (2 * M))

  lifted-length : (ps : List ℕ) → length (lifted ps) ≡ 2 * length ps
  unfolding lifted
  lifted-length [] = refl
  lifted-length (p ∷ ps) = omega (arith, length-append (lifted ps) (Open p ∷ Lift p ∷ []), lifted-length ps)

  openings-length : (ps : List ℕ) → length (openings ps) ≤ 2 * length ps
  unfolding openings
  openings-length [] = omega arith
  openings-length (p ∷ ps) = omega (arith, length-append (lifted ps) (Open p ∷ []), lifted-length ps)

  -- n columns and 2M steps more
  among : (n x : ℕ) → n ≤ o.columns → x ≤ n * (2 * M) + 2 * M → x ≤ (o.columns + 1) * (2 * M)
  among n x l h =
      omega (arith, mul-le-mul_right (2 * M) l, add-mul o.columns 1 (2 * M))

  module _ (ps : List ℕ) (h : ascends 0 o.columns ps ≡ true) where
    -- "until rows or columns run out"
    pub steps_few : (p : WidePlace) → Stood o ps p → length (steps_before M o.columns ps p) ≤ (o.columns + 1) * (2 * M)
    unfolding steps_before before_step row_of
    steps_few (At (Mix j k)) s =
        let r = before ps j + 1 in
        among (j - 1) _ (omega (arith, s.1))
        (omega (arith, length-append (visits M ps (j - 1)) (each (Mix j) (r + 1) (k - r - 1)), visits-length ps (j - 1), each-length (Mix j) (r + 1) (k - r - 1), s.3))
    steps_few (At (Check j)) s =
        let r = before ps j + 1 in
        among (j - 1) _ (omega (arith, s.1))
        (omega (arith, length-append (visits M ps (j - 1)) (each (Mix j) (r + 1) (M - r)), visits-length ps (j - 1), each-length (Mix j) (r + 1) (M - r)))
    steps_few (At (Scale j)) s =
        let r = before ps j + 1 in
        among (j - 1) _ (omega (arith, in_columns o ps h s))
        (omega (arith, length-append (visits M ps (j - 1)) (sought M r j), visits-length ps (j - 1), sought-length r j))
    steps_few (At (Clear j k)) s =
        let r = before ps j + 1 in
        let l = Scale j ∷ each (Clear j) (r + 1) (k - r - 1) in
        among (j - 1) _ (omega (arith, in_columns o ps h (s.0, s.1)))
        (omega (arith, length-append (visits M ps (j - 1)) (sought M r j ++ l), length-append (sought M r j) l, visits-length ps (j - 1), sought-length r j, each-length (Clear j) (r + 1) (k - r - 1), s.3))
    steps_few (At (Open j)) s =
        let r = before ps j + 1 in
        among (last ps) _ (last_high o.columns ps h)
        (omega (arith, length-append (visits M ps (last ps)) (lifted (drop r ps)), visits-length ps (last ps), lifted-length (drop r ps), length-drop r ps, s.0))
    steps_few (At (Lift j)) s =
        let r = before ps j + 1 in
        among (last ps) _ (last_high o.columns ps h)
        (omega (arith, length-append (visits M ps (last ps)) (lifted (drop r ps) ++ (Open j ∷ [])), length-append (lifted (drop r ps)) (Open j ∷ []), visits-length ps (last ps), lifted-length (drop r ps), length-drop r ps, s.0))
    steps_few Short s = among o.columns _ (omega arith) (omega (arith, visits-length ps o.columns))
    steps_few Done s =
        among (last ps) _ (last_high o.columns ps h)
        (omega (arith, length-append (visits M ps (last ps)) (openings ps), visits-length ps (last ps), openings-length ps, s))
