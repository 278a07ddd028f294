-- The closed form of the draws taken at a place: what the code works out is the sum over the steps before it.
-- Assumes nothing.
use mathlib.Core.Bool.{true}
use mathlib.Core.List.{List, [], ◌∷◌, ◌++◌}
use mathlib.Core.Path.{◌≡◌, refl, sym, ap, ◌∙◌}
use Prim.Native.Nat.{ℕ, zero, suc, ◌<◌, ◌≤◌, ◌+◌, ◌-◌, ◌*◌}
use native.Mathlib.Omega.{arith}
use native.Mathlib.Nat.{mul-le-mul, div-eq_of_eq-mul_right}
use lib.ListN.{take}
use lib.Seq.{take_all}
use Rattle.sharing.specs.Run.{pairs}
use Rattle.sharing.specs.Rules.{inversion_draws}
use Rattle.sharing.specs.Bounds.{most_width}
use Rattle.sharing.proofs.Pairs.{pairs-double}
use Rattle.flag.specs.Flag.{flag_draws}
use Rattle.table.specs.Costs.{mix_cost, check_cost, scale_cost, scale_nonzero, clear_cost, open_cost}
use Rattle.course.specs.declared.Step.{Step}
use Rattle.course.specs.declared.Step.TheVariants.{Mix, Check, Scale, Clear, Open, Lift}
use Rattle.course.specs.declared.Place.{Place}
use Rattle.course.specs.declared.Place.TheVariants.{At, Stopped, Done}
use Rattle.course.specs.declared.Order.{Order}
use Rattle.course.specs.StepList.{Sizes, each, column, columns, openings, step_list, up_to, in_list, cost_of, cost_in, mask_cost, nonzero_cost, sum_over}
use Rattle.course.specs.Taken.{before_step, steps_before, taken_at}
use Rattle.course.specs.Code.Closed.{flags_over, rows_over, part_at, part_of, Stands, Kept, weighed, mask_of, nonzero_of}
use Rattle.course.proofs.Within.{within, in_list_lem}
use Rattle.course.proofs.Sums.{sum-append, openings-length, each_none, columns-nonzero, nonzero_count}
use Rattle.course.proofs.Before.{open_next, column-last}

-- ---- sums over the widths L = y+1..y+d: of L-1, and of (L-1)L

flag_sum : ℕ → ℕ → ℕ
flag_sum y zero = 0
flag_sum y (suc d) = flag_sum y d + (y + d)

row_sum : ℕ → ℕ → ℕ
row_sum y zero = 0
row_sum y (suc d) = row_sum y d + (y + d) * (y + d + 1)

flag_twice : (u d : ℕ) → d * (u + u + d + 1) ≡ 2 * flag_sum (suc u) d
unfolding flag_sum
flag_twice u zero = omega arith
flag_twice u (suc d) = omega (arith, flag_twice u d)

flags_are : (y d w : ℕ) → 1 ≤ y → w ≡ y + d → flags_over w y ≡ flag_sum y d
unfolding flags_over
flags_are zero d w a e = absurd (let n : ⊥ = omega arith in n)
flags_are (suc u) d w a e =
    let x : w - suc u ≡ d = omega arith in
    let z : w + suc u - 1 ≡ u + u + d + 1 = omega arith in
    rw (x, z) (div-eq_of_eq-mul_right (omega arith) (flag_twice u d))

-- (w+y)²-wy-1 for y = u+1 and w = y+d
thirds : ℕ → ℕ → ℕ
thirds u d = 3 * (u * u) + 6 * u + 2 + 3 * (u * d) + 3 * d + d * d

row_thrice : (u d : ℕ) → d * thirds u d ≡ 3 * row_sum (suc u) d
unfolding row_sum thirds
row_thrice u zero = omega arith
row_thrice u (suc d) = omega (arith, row_thrice u d)

square-less : (u d : ℕ) → (suc u + d + suc u) * (suc u + d + suc u) ≡ (suc u + d) * suc u + 1 + thirds u d
unfolding thirds
square-less u d = omega arith

rows_are : (y d w : ℕ) → 1 ≤ y → w ≡ y + d → rows_over w y ≡ row_sum y d
unfolding rows_over
rows_are zero d w a e = absurd (let n : ⊥ = omega arith in n)
rows_are (suc u) d w a e =
    let x : w - suc u ≡ d = omega arith in
    let z : (w + suc u) * (w + suc u) - w * suc u - 1 ≡ thirds u d = rw e (omega (arith, square-less u d)) in
    rw (x, z) (div-eq_of_eq-mul_right (omega arith) (row_thrice u d))

row_least : (y d : ℕ) → y * (y + 1) ≤ row_sum y (suc d)
unfolding row_sum
row_least y zero = omega arith
row_least y (suc d) = omega (arith, row_least y d)

-- ---- the draws of the whole columns

pub each-sum : (g : Step → ℕ) (f : ℕ → Step) (x : ℕ) → ((k : ℕ) → g (f k) ≡ x) → (n a : ℕ) → sum_over g (each f a n) ≡ n * x
unfolding each sum_over
each-sum g f x h zero a = omega arith
each-sum g f x h (suc n) a = omega (arith, h a, each-sum g f x h n (a + 1))

-- the Opens that come before Open(j), and before Lift(j); a Lift adds nothing
module _ (g : Step → ℕ) (x : ℕ) (h : (k : ℕ) → g (Open k) ≡ x) (none : (k : ℕ) → g (Lift k) ≡ 0) where
  before_open : (d n : ℕ) → d < n → sum_over g (take (2 * d) (openings n)) ≡ d * x
  unfolding openings sum_over
  before_open zero n l = omega arith
  before_open (suc d) zero l = absurd (let n : ⊥ = omega arith in n)
  before_open (suc d) (suc zero) l = absurd (let n : ⊥ = omega arith in n)
  before_open (suc d) (suc (suc n)) l =
      let y : 2 * suc d ≡ suc (suc (2 * d)) = omega arith in
      rw y (omega (arith, h (suc (suc n)), none (suc (suc n)), before_open d (suc n) (omega arith)))

  before-lift : (d n : ℕ) → d < n → sum_over g (take (2 * d + 1) (openings n)) ≡ (d + 1) * x
  unfolding sum_over
  before-lift d n l =
      rw (open_next d n (n - d) (omega arith) (omega arith), sum-append g (take (2 * d) (openings n)) (Open (n - d) ∷ []))
      (omega (arith, h (n - d), before_open d n l))

module _ (o : Order) where
  abbrev F : ℕ
  F = flag_draws o.field o.shares

  abbrev N : ℕ
  N = pairs o.shares

  abbrev I : ℕ
  I = inversion_draws o.shares

  abbrev mask : List Step → ℕ
  mask l = sum_over (mask_cost o) l

  -- the Mixes of a column whose rows have L columns from it on
  mixes_sum : (j L n : ℕ) → o.size + 2 - j ≡ L → mask (each (Mix j) (j + 1) n) ≡ n * (F + L * N)
  unfolding cost_of cost_in mix_cost
  mixes_sum j L n e = each-sum (mask_cost o) (Mix j) (F + L * N) (λ k. let z : o.size + 1 + 1 - j ≡ L = omega arith in rw z) n (j + 1)

  clears_sum : (j L n : ℕ) → o.size + 2 - j ≡ L → mask (each (Clear j) (j + 1) n) ≡ n * (L * N)
  unfolding cost_of cost_in clear_cost
  clears_sum j L n e = each-sum (mask_cost o) (Clear j) (L * N) (λ k. let z : o.size + 1 + 1 - j ≡ L = omega arith in rw z) n (j + 1)

  check-is : (j : ℕ) → mask_cost o (Check j) ≡ F + N
  unfolding cost_of cost_in check_cost
  check-is j = refl

  scale-is : (j L : ℕ) → o.size + 2 - j ≡ L → mask_cost o (Scale j) ≡ I + 2 * N * L
  unfolding cost_of cost_in scale_cost
  scale-is j L e =
      let z : o.size + 1 + 1 - j ≡ L = omega arith in
      let p : o.shares * (o.shares - 1) ≡ 2 * N = omega (arith, pairs-double o.shares) in
      rw (z, p)

  column-sum : (j L : ℕ) → j + L ≡ o.size + 1 → 1 ≤ L → mask (column o.size j) ≡ I + N + F * L + N * (2 * (L * (L + 1)))
  unfolding column sum_over
  column-sum j zero e a = absurd (let n : ⊥ = omega arith in n)
  column-sum j (suc d) e a =
      let z : o.size - j ≡ d = omega arith in
      rw (sum-append (mask_cost o) (each (Mix j) (j + 1) (o.size - j)) (Check j ∷ Scale j ∷ each (Clear j) (j + 1) (o.size - j)), z)
      (omega (arith, mixes_sum j (d + 2) d (omega arith), check-is j, scale-is j (d + 2) (omega arith), clears_sum j (d + 2) d (omega arith)))

  abbrev whole : ℕ → ℕ → ℕ
  whole y c = c * (I + N) + F * flag_sum y c + N * (2 * row_sum y c)

  columns-sum : (c j y : ℕ) → j + c + y ≡ o.size + 2 → 1 ≤ y → mask (columns o.size j c) ≡ whole y c
  unfolding columns sum_over flag_sum row_sum
  columns-sum zero j y e a = omega arith
  columns-sum (suc c) j y e a =
      omega (arith, sum-append (mask_cost o) (column o.size j) (columns o.size (j + 1) c), column-sum j (y + c) (omega arith) (omega arith), columns-sum c (j + 1) y (omega arith) a)

  -- ---- the draws at a place

  abbrev w : ℕ
  w = o.size + 1

  twice : 2 ≤ o.shares → I + N ≡ (o.shares - 1) * (2 * o.shares - 1)
  unfolding inversion_draws
  twice h = by o.shares h (pairs-double o.shares)
    where
      by : (n : ℕ) → 2 ≤ n → pairs n * 2 ≡ n * (n - 1) → (n - 1) * (n - 1) + pairs n + pairs n ≡ (n - 1) * (2 * n - 1)
      by zero l e = absurd (let n : ⊥ = omega arith in n)
      by (suc u) l e =
          let x : suc u - 1 ≡ u = omega arith in
          let y : 2 * suc u - 1 ≡ u + u + 1 = omega arith in
          rw (x, y) (omega (arith, rw x at e))

  -- what the code works out is the draws of the columns that are done, with those of the part
  part-sum : Sizes o → (y c flags more less rest : ℕ) → 1 ≤ y → y + c ≡ w → rest + less ≡ 2 * row_sum y c
      → mask_of o.field o.shares w (record { width = y; flags = flags; more = more; less = less })
      ≡ c * (I + N) + F * (flag_sum y c + flags) + N * (rest + more)
  unfolding mask_of weighed
  part-sum z y c flags more less rest a e l =
      let x : w - y ≡ c = omega arith in
      let r : 2 * rows_over w y - less ≡ rest = rw (rows_are y c w a (sym e)) (omega arith) in
      rw (x, flags_are y c w a (sym e), r) (omega (arith, ap (λ k. c * k) (twice z.two)))

  -- of a place beyond its columns
  beyond : Sizes o → (y c flags more : ℕ) (l : List Step) → 1 ≤ y → y + c ≡ w
      → mask l ≡ F * flags + N * more
      → mask (columns o.size 1 c ++ l) ≡ mask_of o.field o.shares w (record { width = y; flags = flags; more = more; less = 0 })
  beyond z y c flags more l a e h =
      rw (sum-append (mask_cost o) (columns o.size 1 c) l, part-sum z y c flags more 0 (2 * row_sum y c) a e (omega arith))
      (omega (arith, columns-sum c 1 y (omega arith) a, h))

  up_to_lem : Sizes o → (j : ℕ) → 1 ≤ j → j ≤ o.size → mask (up_to o.size j) ≡ mask_of o.field o.shares w (part_at w (Scale j))
  unfolding up_to part_at sum_over
  up_to_lem z j a b =
      let x : w + 1 - j ≡ w - j + 1 = omega arith in
      rw x
      (beyond z (w - j + 1) (j - 1) (w - j) ((w - j) * (w - j)) (each (Mix j) (j + 1) (o.size - j) ++ (Check j ∷ [])) (omega arith) (omega arith)
      (by (w - j) (omega arith) refl))
    where
      by : (d : ℕ) → 1 ≤ d → d ≡ w - j → mask (each (Mix j) (j + 1) (o.size - j) ++ (Check j ∷ [])) ≡ F * d + N * (d * d)
      by zero l e = absurd (let n : ⊥ = omega arith in n)
      by (suc d) l e =
          let x : o.size - j ≡ d = omega arith in
          rw (sum-append (mask_cost o) (each (Mix j) (j + 1) (o.size - j)) (Check j ∷ []), x)
          (omega (arith, mixes_sum j (d + 2) d (omega arith), check-is j))

  less-sum : (j k : ℕ) → 1 ≤ j → j < k → k ≤ o.size → (w - k) * (w + 1 - j) ≤ 2 * row_sum (w - j) j
  less-sum zero k a b l = absurd (let n : ⊥ = omega arith in n)
  less-sum (suc i) k a b l =
      let g : w + 1 - suc i ≡ w - suc i + 1 = omega arith in
      let h : (w - k) * (w - suc i + 1) ≤ (w - suc i) * (w - suc i + 1) = mul-le-mul {n₁ = w - k} {m₁ = w - suc i + 1} {n₂ = w - suc i} {m₂ = w - suc i + 1} (omega arith) (omega arith) in
      rw g (bound h (row_least (w - suc i) i))
    where
      bound : {a b c : ℕ} → a ≤ b → b ≤ c → a ≤ 2 * c
      bound h g = omega arith

  -- the Clears of a column that are still to come are what its whole draws have too many
  clear-sum : Sizes o → (j k : ℕ) → 1 ≤ j → j < k → k ≤ o.size
      → mask (up_to o.size j ++ (Scale j ∷ each (Clear j) (j + 1) (k - j - 1))) ≡ mask_of o.field o.shares w (part_at w (Clear j k))
  unfolding part_at sum_over
  clear-sum z j k a b l =
      let L = w + 1 - j in
      let R = 2 * row_sum (w - j) j in
      let rest = R - (w - k) * L in
      let h : rest + (w - k) * L ≡ R = omega (arith, less-sum j k a b l) in
      let some = sum-append (mask_cost o) (up_to o.size j) (Scale j ∷ each (Clear j) (j + 1) (k - j - 1))
      ∙ ap (λ (n : ℕ). mask (up_to o.size j) + (mask_cost o (Scale j) + n)) (clears_sum j L (k - j - 1) (omega arith)) in
      let all = sum-append (mask_cost o) (up_to o.size j) (Scale j ∷ each (Clear j) (j + 1) (o.size - j))
      ∙ ap (λ (n : ℕ). mask (up_to o.size j) + (mask_cost o (Scale j) + n)) (clears_sum j L (o.size - j) (omega arith)) in
      let whole-column = sym all ∙ ap mask (sym (column-last o.size j (o.size - j) a (omega arith))) ∙ columns-sum j 1 (w - j) (omega arith) (omega arith) in
      take_off (mask (up_to o.size j)) (mask_cost o (Scale j)) (j * (I + N) + F * flag_sum (w - j) j) (o.size - j) (k - j - 1) (w - k) L rest some whole-column (omega arith) h
      ∙ plain (j * (I + N)) (flag_sum (w - j) j) rest
      ∙ sym (part-sum z (w - j) j 0 0 ((w - k) * L) rest (omega arith) (omega arith) h)
    where
      take_off : {S R : ℕ} (U C A all some left L rest : ℕ) → S ≡ U + (C + some * (L * N)) → U + (C + all * (L * N)) ≡ A + N * R
          → all ≡ some + left → rest + left * L ≡ R → S ≡ A + N * rest
      take_off U C A all some left L rest p q e g = omega (arith, ap (λ t. t * (L * N)) e, ap (λ t. N * t) g)

      plain : (A f rest : ℕ) → A + F * f + N * rest ≡ A + F * (f + 0) + N * (rest + 0)
      plain A f rest = omega arith

  -- all columns, and so many Opens
  opens : Sizes o → (l : List Step) (d more : ℕ) → mask l ≡ d * N → d ≡ more
      → mask (columns o.size 1 o.size ++ l) ≡ mask_of o.field o.shares w (record { width = 1; flags = 0; more = more; less = 0 })
  opens z l d more h e = beyond z 1 o.size 0 more l (omega arith) (omega arith) (h ∙ omega (arith, ap (λ k. k * N) e))

  first_opens : (d : ℕ) → d < o.size → mask (take (2 * d) (openings o.size)) ≡ d * N
  unfolding cost_of cost_in open_cost
  first_opens d l = before_open (mask_cost o) N (λ k. refl) (λ k. refl) d o.size l

  one_more : (d : ℕ) → d < o.size → mask (take (2 * d + 1) (openings o.size)) ≡ (d + 1) * N
  unfolding cost_of cost_in open_cost
  one_more d l = before-lift (mask_cost o) N (λ k. refl) (λ k. refl) d o.size l

  spread : (n L : ℕ) → n * (F + L * N) ≡ F * n + N * (n * L)
  spread n L = omega arith

  step-mask : Sizes o → (s : Step) → in_list o.size s ≡ true → mask (before_step o.size s) ≡ mask_of o.field o.shares w (part_at w s)
  unfolding before_step part_at
  step-mask z (Mix j k) h =
      let u = within o.size (Mix j k) h in
      beyond z (w + 1 - j) (j - 1) (k - j - 1) ((k - j - 1) * (w + 1 - j)) (each (Mix j) (j + 1) (k - j - 1)) (omega arith) (omega arith)
      (mixes_sum j (w + 1 - j) (k - j - 1) (omega arith) ∙ spread (k - j - 1) (w + 1 - j))
  step-mask z (Check j) h =
      let u = within o.size (Check j) h in
      let x : o.size - j ≡ w - 1 - j = omega arith in
      rw x
      (beyond z (w + 1 - j) (j - 1) (w - 1 - j) ((w - 1 - j) * (w + 1 - j)) (each (Mix j) (j + 1) (w - 1 - j)) (omega arith) (omega arith)
      (mixes_sum j (w + 1 - j) (w - 1 - j) (omega arith) ∙ spread (w - 1 - j) (w + 1 - j)))
  step-mask z (Scale j) h = let u = within o.size (Scale j) h in up_to_lem z j u.0 u.1
  step-mask z (Clear j k) h = let u = within o.size (Clear j k) h in clear-sum z j k u.0 u.1 u.2
  step-mask z (Open j) h =
      let u = within o.size (Open j) h in
      let d = o.size - j in
      opens z _ d (w - 1 - j) (first_opens d (omega arith)) (omega arith)
  step-mask z (Lift j) h =
      let u = within o.size (Lift j) h in
      let d = o.size - j in
      opens z _ (d + 1) (w - j) (one_more d (omega arith)) (omega arith)

  -- the mask draws taken at a place
  pub mask_closed : Sizes o → (p : Place) → Stands o.size p → (taken_at o p).mask ≡ mask_of o.field o.shares w (part_of w p)
  unfolding taken_at steps_before part_of step_list
  mask_closed z (At s) h = step-mask z s h
  mask_closed z (Stopped j) h = up_to_lem z j h.0 h.1
  mask_closed z Done h =
      let d = o.size - 1 in
      let all : take (2 * d + 1) (openings o.size) ≡ openings o.size = take_all (2 * d + 1) (openings o.size) (omega (arith, openings-length o.size, z.some)) in
      opens z _ (d + 1) (w - 1) (ap mask (sym all) ∙ one_more d (omega (arith, z.some))) (omega (arith, z.some))

  -- ---- the nonzero draws

  abbrev nonzero : List Step → ℕ
  nonzero l = sum_over (nonzero_cost o) l

  columns_nonzeros : (c : ℕ) (l : List Step) → nonzero (columns o.size 1 c ++ l) ≡ c * (o.shares - 1) + nonzero l
  columns_nonzeros c l = omega (arith, sum-append (nonzero_cost o) (columns o.size 1 c) l, columns-nonzero o o.size 1 c)

  up_to-nonzero : (j : ℕ) → nonzero (up_to o.size j) ≡ (j - 1) * (o.shares - 1)
  unfolding up_to sum_over cost_of cost_in
  up_to-nonzero j =
      omega (arith, columns_nonzeros (j - 1) (each (Mix j) (j + 1) (o.size - j) ++ (Check j ∷ [])), sum-append (nonzero_cost o) (each (Mix j) (j + 1) (o.size - j)) (Check j ∷ []), each_none o (Mix j) (λ k. refl) (j + 1) (o.size - j))

  step-nonzero : (s : Step) → in_list o.size s ≡ true → nonzero (before_step o.size s) ≡ nonzero_of o.shares w (part_at w s)
  unfolding before_step part_at nonzero_of sum_over cost_of cost_in scale_nonzero
  step-nonzero (Mix j k) h =
      let u = within o.size (Mix j k) h in
      let x : w - (w + 1 - j) ≡ j - 1 = omega arith in
      rw x (omega (arith, columns_nonzeros (j - 1) (each (Mix j) (j + 1) (k - j - 1)), each_none o (Mix j) (λ k. refl) (j + 1) (k - j - 1)))
  step-nonzero (Check j) h =
      let u = within o.size (Check j) h in
      let x : w - (w + 1 - j) ≡ j - 1 = omega arith in
      rw x (omega (arith, columns_nonzeros (j - 1) (each (Mix j) (j + 1) (o.size - j)), each_none o (Mix j) (λ k. refl) (j + 1) (o.size - j)))
  step-nonzero (Scale j) h =
      let u = within o.size (Scale j) h in
      let x : w - (w + 1 - j) ≡ j - 1 = omega arith in
      rw x (up_to-nonzero j)
  step-nonzero (Clear j k) h =
      let u = within o.size (Clear j k) h in
      let x : w - (w - j) ≡ j = omega arith in
      let y : j ≡ j - 1 + 1 = omega arith in
      rw x
      (omega (arith, sum-append (nonzero_cost o) (up_to o.size j) (Scale j ∷ each (Clear j) (j + 1) (k - j - 1)), up_to-nonzero j, each_none o (Clear j) (λ k. refl) (j + 1) (k - j - 1), ap (λ t. t * (o.shares - 1)) y))
  step-nonzero (Open j) h =
      let u = within o.size (Open j) h in
      let x : w - 1 ≡ o.size = omega arith in
      let d = o.size - j in
      rw x (omega (arith, columns_nonzeros o.size (take (2 * d) (openings o.size)), before_open (nonzero_cost o) 0 (λ k. refl) (λ k. refl) d o.size (omega arith)))
  step-nonzero (Lift j) h =
      let u = within o.size (Lift j) h in
      let x : w - 1 ≡ o.size = omega arith in
      let d = o.size - j in
      rw x (omega (arith, columns_nonzeros o.size (take (2 * d + 1) (openings o.size)), before-lift (nonzero_cost o) 0 (λ k. refl) (λ k. refl) d o.size (omega arith)))

  pub nonzero_closed : (p : Place) → Stands o.size p → (taken_at o p).nonzero ≡ nonzero_of o.shares w (part_of w p)
  unfolding taken_at steps_before part_of part_at nonzero_of
  nonzero_closed (At s) h = step-nonzero s h
  nonzero_closed (Stopped j) h =
      let x : w - (w + 1 - j) ≡ j - 1 = omega arith in
      rw x (up_to-nonzero j)
  nonzero_closed Done h =
      let x : w - 1 ≡ o.size = omega arith in
      rw x (nonzero_count o)

  -- the parts of places keep to their bounds
  step_kept : Sizes o → (s : Step) → in_list o.size s ≡ true → Kept w (part_at w s)
  unfolding part_at
  step_kept z (Mix j k) h =
      let u = within o.size (Mix j k) h in
      record { low = omega arith; high = omega arith; flags = omega (arith, z.most); more = mul-le-mul {n₁ = k - j - 1} {m₁ = w + 1 - j} {n₂ = most_width} {m₂ = most_width} (omega (arith, z.most)) (omega (arith, z.most)); less = omega arith }
  step_kept z (Check j) h =
      let u = within o.size (Check j) h in
      record { low = omega arith; high = omega arith; flags = omega (arith, z.most); more = mul-le-mul {n₁ = w - 1 - j} {m₁ = w + 1 - j} {n₂ = most_width} {m₂ = most_width} (omega (arith, z.most)) (omega (arith, z.most)); less = omega arith }
  step_kept z (Scale j) h =
      let u = within o.size (Scale j) h in
      record { low = omega arith; high = omega arith; flags = omega (arith, z.most); more = mul-le-mul {n₁ = w - j} {m₁ = w - j} {n₂ = most_width} {m₂ = most_width} (omega (arith, z.most)) (omega (arith, z.most)); less = omega arith }
  step_kept z (Clear j k) h =
      let u = within o.size (Clear j k) h in
      record { low = omega arith; high = omega arith; flags = omega arith; more = omega arith; less = rw (rows_are (w - j) j w (omega arith) (omega arith)) (less-sum j k u.0 u.1 u.2) }
  step_kept z (Open j) h =
      let u = within o.size (Open j) h in
      record { low = omega arith; high = omega arith; flags = omega arith; more = omega (arith, z.most); less = omega arith }
  step_kept z (Lift j) h =
      let u = within o.size (Lift j) h in
      record { low = omega arith; high = omega arith; flags = omega arith; more = omega (arith, z.most); less = omega arith }

  pub kept : Sizes o → (p : Place) → Stands o.size p → Kept w (part_of w p)
  unfolding part_of
  kept z (At s) h = step_kept z s h
  kept z (Stopped j) h = step_kept z (Scale j) (in_list_lem o.size (Scale j) h)
  kept z Done h = record { low = omega arith; high = omega arith; flags = omega arith; more = omega (arith, z.most); less = omega arith }
