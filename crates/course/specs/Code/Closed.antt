-- How the code works out the draws taken at a place, with no walk over the list. In a column whose rows have L columns from it on there are
-- L-1 zero flags, and 2(L-1)L+1 times the N draws of all pairs, and an Inversion; both are summed in closed form over the whole columns, from
-- the first, with w = m+1, to the last, with y+1. What a place has beyond them, or they beyond it, is its part.
-- Assumes nothing.
use Rattle.std.specs.Prelude.{Bool, true, ◌&&◌, ◌≡◌, ℕ, ◌+◌, ◌-◌, ◌*◌, ◌/◌, ◌≤◌, eqb}
use Rattle.sharing.specs.Run.{pairs}
use Rattle.sharing.specs.Bounds.{most_width}
use Rattle.flag.specs.Flag.{flag_draws}
use Rattle.course.specs.declared.Step.{Step}
use Rattle.course.specs.declared.Step.TheVariants.{Mix, Check, Scale, Clear, Open, Lift}
use Rattle.course.specs.declared.Place.{Place}
use Rattle.course.specs.declared.Place.TheVariants.{At, Stopped, Done}
use Rattle.course.specs.declared.Order.{Order}
use Rattle.course.specs.declared.Part.{Part}
use Rattle.course.specs.StepList.{in_list}

-- the sum of L-1 for L = y+1..w
unfoldable pub flags_over : ℕ → ℕ → ℕ
flags_over w y = (w - y) * (w + y - 1) / 2

-- the sum of (L-1)L for L = y+1..w
unfoldable pub rows_over : ℕ → ℕ → ℕ
rows_over w y = (w - y) * ((w + y) * (w + y) - w * y - 1) / 3

abbrev pub part : ℕ → ℕ → ℕ → ℕ → Part
part width flags more less = record { width = width; flags = flags; more = more; less = less }

-- the part of a step, in rows of w columns
unfoldable pub part_at : ℕ → Step → Part
part_at w (Mix j k) = part (w + 1 - j) (k - j - 1) ((k - j - 1) * (w + 1 - j)) 0
part_at w (Check j) = part (w + 1 - j) (w - 1 - j) ((w - 1 - j) * (w + 1 - j)) 0
part_at w (Scale j) = part (w + 1 - j) (w - j) ((w - j) * (w - j)) 0
part_at w (Clear j k) = part (w - j) 0 0 ((w - k) * (w + 1 - j))
part_at w (Open j) = part 1 0 (w - 1 - j) 0
part_at w (Lift j) = part 1 0 (w - j) 0

-- and of a place: stopped at j stands where Scale(j) does
unfoldable pub part_of : ℕ → Place → Part
part_of w (At s) = part_at w s
part_of w (Stopped j) = part_at w (Scale j)
part_of w Done = part 1 0 (w - 1) 0

-- a place that a record may have
abbrev pub Stands : ℕ → Place → Type 0
Stands m (At s) = in_list m s ≡ true
Stands m (Stopped j) = (1 ≤ j) × (j ≤ m)
Stands m Done = Unit

-- what the parts of such places keep to
pub record Kept (w : ℕ) (z : Part) : Type 0 where
  pub low : 1 ≤ z.width
  pub high : z.width ≤ w
  pub flags : z.flags ≤ most_width
  pub more : z.more ≤ most_width * most_width
  pub less : z.less ≤ 2 * rows_over w z.width

-- (n-1)(2n-1) draws for each column, those of its Inversion and N more, so many zero flags, and so many times the N of all pairs
unfoldable pub weighed : ℕ → ℕ → ℕ → ℕ → ℕ → ℕ
weighed f n c flags times = c * (n - 1) * (2 * n - 1) + flag_draws f n * flags + pairs n * times

-- the mask draws of the whole columns, with the part
unfoldable pub mask_of : ℕ → ℕ → ℕ → Part → ℕ
mask_of f n w z =
    let y = z.width in
    weighed f n (w - y) (flags_over w y + z.flags) (2 * rows_over w y - z.less + z.more)

-- the nonzero draws: n-1 in each column
unfoldable pub nonzero_of : ℕ → ℕ → Part → ℕ
nonzero_of n w z = (w - z.width) * (n - 1)

-- whether two counters are those of a part
unfoldable pub agrees : Order → Part → ℕ → ℕ → Bool
agrees o z mask nonzero =
    eqb mask (mask_of o.field o.shares (o.size + 1) z) && eqb nonzero (nonzero_of o.shares (o.size + 1) z)
